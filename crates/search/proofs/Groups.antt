-- Groups of switches as a pointer or a rank changes.
use Rattle.std.proofs.Common.{◌≡◌, ℕ, ◌+◌, ◌-◌, ◌<◌, ◌≤◌, cond, eqb, List, length, set, sym, ap, ◌∙◌, subst, arith, get_or-set_other, get_or-set_same}
use native.Mathlib.Decide.{ℕ_discrete}
use Rattle.std.proofs.lemmas.Bool.{eq-eqb, ne_eqb, cond-true, cond-false}
use Rattle.search.specs.Records.{On}
use Rattle.search.specs.Joined.{label}
use Rattle.search.specs.Grouped.{Rising, Leader, Found, under}

-- f with y at x
pub record Changed (n : ℕ) (f f' : ℕ → ℕ) (x y : ℕ) : Type 0 where
  pub there : f' x ≡ y
  pub elsewhere : (v : ℕ) → On n v → (v ≡ x → ⊥) → f' v ≡ f v

pub changed_row : (n : ℕ) (row : List ℕ) (x y : ℕ) → n ≤ length row → On n x → Changed n (label row) (label (set row (x - 1) y)) x y
changed_row n row x y h o = record { there = get_or-set_same row (x - 1) y 0 (omega (arith, o.0, o.1)); elsewhere = λ v w d. get_or-set_other row (x - 1) (v - 1) y 0 (λ e. d (omega (arith, o.0, w.0))) }

pub led : (l : ℕ → ℕ) (b a v : ℕ) → l v ≡ b → under l b a v ≡ a
led l b a v e = cond-true (eqb (l v) b) a (l v) (eq-eqb (l v) b e)

pub not_led : (l : ℕ → ℕ) (b a v : ℕ) → (l v ≡ b → ⊥) → under l b a v ≡ l v
not_led l b a v e = cond-false (eqb (l v) b) a (l v) (ne_eqb (l v) b e)

pub wider : (k m n : ℕ) (p rk : ℕ → ℕ) → k ≤ m → Rising k n p rk → Rising m n p rk
wider k m n p rk h r = record { inside = r.inside; rises = r.rises; low = λ v o. omega (arith, r.low v o) }

-- a leader's rank one higher
module _ (k n : ℕ) (p rk rk' : ℕ → ℕ) (a : ℕ) (top : p a ≡ a) (c : Changed n rk rk' a (rk a + 1)) (r : Rising k n p rk) where
  grown : (v : ℕ) → On n v → Dec (v ≡ a) → (rk v ≤ rk' v) × (rk' v ≤ rk v + 1)
  grown v o (yes e) = let q : rk' v ≡ rk v + 1 = ap rk' e ∙ c.there ∙ ap (λ u. rk u + 1) (sym e) in (omega (arith, q), omega (arith, q))
  grown v o (no d) = let q = c.elsewhere v o d in (omega (arith, q), omega (arith, q))

  pub raised : Rising (k + 1) n p rk'
  raised = record { inside = r.inside; rises = rises; low = λ v o. omega (arith, (grown v o (ℕ_discrete v a)).1, r.low v o) }
    where
      rises : (v : ℕ) → On n v → (p v ≡ v → ⊥) → rk' v < rk' (p v)
      rises v o d =
          let q = c.elsewhere v o (λ e. d (ap p e ∙ top ∙ sym e)) in
          let s = grown (p v) (r.inside v o) (ℕ_discrete (p v) a) in
          omega (arith, q, r.rises v o d, s.0)

-- a pointer moved, from x to y
module _ (n : ℕ) (p p' : ℕ → ℕ) (x y : ℕ) (c : Changed n p p' x y) where
  pub pointed : (k : ℕ) (rk : ℕ → ℕ) → On n y → ((y ≡ x → ⊥) → rk x < rk y) → Rising k n p rk → Rising k n p' rk
  pointed k rk o h r = record { inside = λ v w. inside v w (ℕ_discrete v x); rises = λ v w d. rises v w d (ℕ_discrete v x); low = r.low }
    where
      inside : (v : ℕ) → On n v → Dec (v ≡ x) → On n (p' v)
      inside v w (yes e) = subst (On n) (sym (ap p' e ∙ c.there)) o
      inside v w (no d) = subst (On n) (sym (c.elsewhere v w d)) (r.inside v w)

      rises : (v : ℕ) → On n v → (p' v ≡ v → ⊥) → Dec (v ≡ x) → rk v < rk (p' v)
      rises v w d (yes e) = let q = ap p' e ∙ c.there in omega (arith, ap rk e, ap rk q, h (λ s. d (q ∙ s ∙ sym e)))
      rises v w d (no f) = let q = c.elsewhere v w f in omega (arith, ap rk q, r.rises v w (λ s. d (q ∙ s)))

  module _ (l : ℕ → ℕ) (L : Leader n p l) where
    -- to the leader
    pub shortened : y ≡ l x → l y ≡ y → Leader n p' l
    shortened e t = record { along = λ v w. along v w (ℕ_discrete v x); top = λ v w q. top v w q (ℕ_discrete v x) }
      where
        along : (v : ℕ) → On n v → Dec (v ≡ x) → l (p' v) ≡ l v
        along v w (yes d) = ap l (ap p' d ∙ c.there) ∙ t ∙ e ∙ ap l (sym d)
        along v w (no d) = ap l (c.elsewhere v w d) ∙ L.along v w

        top : (v : ℕ) → On n v → p' v ≡ v → Dec (v ≡ x) → l v ≡ v
        top v w q (yes d) = ap l d ∙ sym e ∙ sym (ap p' d ∙ c.there) ∙ q
        top v w q (no d) = L.top v w (sym (c.elsewhere v w d) ∙ q)

    -- from a leader to another
    pub hung : l x ≡ x → l y ≡ y → (y ≡ x → ⊥) → Leader n p' (under l x y)
    hung s t f = record { along = λ v w. along v w (ℕ_discrete v x); top = λ v w q. top v w q (ℕ_discrete v x) }
      where
        along : (v : ℕ) → On n v → Dec (v ≡ x) → under l x y (p' v) ≡ under l x y v
        along v w (yes d) = ap (under l x y) (ap p' d ∙ c.there) ∙ not_led l x y y (λ e. f (sym t ∙ e)) ∙ t ∙ sym (led l x y v (ap l d ∙ s))
        along v w (no d) = ap (under l x y) (c.elsewhere v w d) ∙ ap (λ u. cond (eqb u x) y u) (L.along v w)

        top : (v : ℕ) → On n v → p' v ≡ v → Dec (v ≡ x) → under l x y v ≡ v
        top v w q (yes d) = absurd (f (sym (ap p' d ∙ c.there) ∙ q ∙ d))
        top v w q (no d) = let e = L.top v w (sym (c.elsewhere v w d) ∙ q) in not_led l x y v (λ z. d (sym e ∙ z)) ∙ e

-- the rows as a is put above b
module _ (labels ranks : List ℕ) (a b : ℕ) (on : On (length labels) a × On (length labels) b) (top : (label labels a ≡ a) × (label labels b ≡ b)) (apart : a ≡ b → ⊥) where
  changed : Changed (length labels) (label labels) (label (set labels (b - 1) a)) b a
  changed = changed_row (length labels) labels b a (omega arith) on.1

  pub united : (k : ℕ) → label ranks b < label ranks a → Rising k (length labels) (label labels) (label ranks) → Rising k (length labels) (label (set labels (b - 1) a)) (label ranks)
  united k h r = pointed (length labels) (label labels) (label (set labels (b - 1) a)) b a changed k (label ranks) on.0 (λ d. h) r

  pub united_raised : (k : ℕ) → length labels ≤ length ranks → label ranks a ≡ label ranks b → Rising k (length labels) (label labels) (label ranks) → Rising (k + 1) (length labels) (label (set labels (b - 1) a)) (label (set ranks (a - 1) (label ranks a + 1)))
  united_raised k size e r =
      let c = changed_row (length labels) ranks a (label ranks a + 1) size on.0 in
      let q : label (set ranks (a - 1) (label ranks a + 1)) b ≡ label ranks b = c.elsewhere b on.1 (λ d. apart (sym d)) in
      pointed (length labels) (label labels) (label (set labels (b - 1) a)) b a changed (k + 1) (label (set ranks (a - 1) (label ranks a + 1))) on.0 (λ d. omega (arith, c.there, q)) (raised k (length labels) (label labels) (label ranks) (label (set ranks (a - 1) (label ranks a + 1))) a top.0 c r)

  pub united_leader : (l : ℕ → ℕ) → Leader (length labels) (label labels) l → Leader (length labels) (label (set labels (b - 1) a)) (under l b a)
  united_leader l L = hung (length labels) (label labels) (label (set labels (b - 1) a)) b a changed l L (L.top b on.1 top.1) (L.top a on.0 top.0) apart

-- the row as the switch at i is pointed to its leader
module _ (n : ℕ) (labels ranks : List ℕ) (i r : ℕ) (same : length labels ≡ n) (h : i < n) (found : Found (length labels) (label labels) (label ranks) (i + 1) r) where
  f : Found n (label labels) (label ranks) (i + 1) r
  f = subst (λ m. Found m (label labels) (label ranks) (i + 1) r) same found

  here : Changed n (label labels) (label (set labels i r)) (i + 1) r
  here = let q : i + 1 - 1 ≡ i = omega arith in subst (λ x. Changed n (label labels) (label (set labels x r)) (i + 1) r) q (changed_row n labels (i + 1) r (omega arith) (omega arith, omega arith))

  pub flatter : (k : ℕ) → Rising k n (label labels) (label ranks) → Rising k n (label (set labels i r)) (label ranks)
  flatter k = pointed n (label labels) (label (set labels i r)) (i + 1) r here k (label ranks) f.inside f.higher

  pub flatter_leader : (l : ℕ → ℕ) → Leader n (label labels) l → Leader n (label (set labels i r)) l
  flatter_leader l L = shortened n (label labels) (label (set labels i r)) (i + 1) r here l L (f.leader l L) (L.top r f.inside f.top)

  pub flat_here : (l : ℕ → ℕ) → Leader n (label labels) l → r ≡ l (i + 1)
  flat_here l L = f.leader l L

-- the way from v to its leader, at x
pub record Going (n : ℕ) (p rk : ℕ → ℕ) (v x : ℕ) : Type 0 where
  pub inside : On n x
  pub higher : (x ≡ v → ⊥) → rk v < rk x
  pub leader : (l : ℕ → ℕ) → Leader n p l → l x ≡ l v
