use Rattle.std.proofs.Common.{◌≡◌, ℕ, zero, suc, ◌-◌, ◌<◌, ◌⊎◌, List, [], ◌∷◌, ◌++◌, sym, refl, ap, ◌∙◌, subst, inl, inr, arith}
use native.Mathlib.Decide.{ℕ_discrete}
use Rattle.std.specs.List.{AllByRecursion}
use Rattle.network.specs.Graph.{Graph, place, start, end, Walk, Connected, Upto, Before, Joining, switches, Distinct, Path}
use Rattle.network.specs.declared.Step.{Step}
use Rattle.network.specs.declared.Step.TheVariants.{Forward, Backward}
use Rattle.network.proofs.Graph.{ahead, trans, back, walk_back, bridged, walk_more, near_dec}

module _ (g : Graph) where
  before_dec : (p i j : ℕ) → Dec (Connected g (Before p) i j)
  before_dec p i j = go (near_dec g (p - 1) i j)
    where
      go : Dec (Connected g (Upto (p - 1)) i j) → Dec (Connected g (Before p) i j)
      go (yes (ss, w)) = yes (ss, walk_more g (Upto (p - 1)) (Before p) (λ q h. omega arith) i ss j w)
      go (no f) = no (λ c. f (c.0, walk_more g (Before p) (Upto (p - 1)) (λ q h. omega arith) i c.0 j c.1))

  -- joining links connect what all links connect: by induction on a bound above the place
  joined_below : (k b p : ℕ) → p < b → Upto k p → Connected g (Joining g k) (g.from p) (g.to p)
  joined_below k zero p l u = absurd (omega arith)
  joined_below k (suc b) p l u = go (λ q. joined_below k b q) (before_dec p (g.from p) (g.to p))
    where
      go : ((q : ℕ) → q < b → Upto k q → Connected g (Joining g k) (g.from q) (g.to q)) → Dec (Connected g (Before p) (g.from p) (g.to p)) → Connected g (Joining g k) (g.from p) (g.to p)
      go below (no f) = ahead g (Joining g k) (Forward p) (u.0, u.1, f)
      go below (yes c) = bridged g (Before p) (Joining g k) (λ q h. below q (omega arith) (omega arith)) (g.from p) c.0 (g.to p) c.1

  pub joined : (k p : ℕ) → Upto k p → Connected g (Joining g k) (g.from p) (g.to p)
  joined k p u = joined_below k (suc p) p (omega arith) u

  pub joining_connect : (k i j : ℕ) → Connected g (Upto k) i j → Connected g (Joining g k) i j
  joining_connect k i j c = bridged g (Upto k) (Joining g k) (joined k) i c.0 j c.1

  pub joining_no_more : (k i j : ℕ) → Connected g (Joining g k) i j → Connected g (Upto k) i j
  joining_no_more k i j (ss, w) = (ss, walk_more g (Joining g k) (Upto k) (λ p h. (h.0, h.1)) i ss j w)

  -- no place twice
  abbrev Lacks : ℕ → List Step → Type 0
  Lacks p [] = Unit {0}
  Lacks p (s ∷ ss) = (place s ≡ p → ⊥) × Lacks p ss

  abbrev Once : List Step → Type 0
  Once [] = Unit {0}
  Once (s ∷ ss) = Lacks (place s) ss × Once ss

  -- the walk passes the link at `suc k` once, between two walks over earlier places
  record Cut (k i : ℕ) (ss : List Step) (j : ℕ) : Type 0 where
    before : List Step
    at : Step
    after : List Step
    whole : ss ≡ before ++ at ∷ after
    top : place at ≡ suc k
    new : Connected g (Before (suc k)) (g.from (suc k)) (g.to (suc k)) → ⊥
    walk_before : Walk g (Joining g k) i before (start g at)
    walk_after : Walk g (Joining g k) (end g at) after j
    once_before : Once before
    once_after : Once after

  low : (k p : ℕ) → Joining g (suc k) p → (p ≡ suc k → ⊥) → Joining g k p
  low k p (a, b, c) ne = (a, omega arith, c)

  low_walk : (k i : ℕ) (ss : List Step) (j : ℕ) → Walk g (Joining g (suc k)) i ss j → Lacks (suc k) ss → Walk g (Joining g k) i ss j
  low_walk k i [] j e l = e
  low_walk k i (s ∷ ss) j (e, a, w) (n, l) = (e, low k (place s) a n, low_walk k (end g s) ss j w l)

  lacks-append : (p : ℕ) (xs : List Step) (s : Step) (ys : List Step) → Lacks p (xs ++ s ∷ ys) → Lacks p xs
  lacks-append p [] s ys l = tt
  lacks-append p (x ∷ xs) s ys (n, l) = (n, lacks-append p xs s ys l)

  cut : (k i : ℕ) (ss : List Step) (j : ℕ) → Walk g (Joining g (suc k)) i ss j → Once ss → Walk g (Joining g k) i ss j ⊎ Cut k i ss j
  cut k i [] j e o = inl e
  cut k i (s ∷ ss) j (e, a, w) (l, o) = go (ℕ_discrete (place s) (suc k)) (cut k (end g s) ss j w o)
    where
      go : Dec (place s ≡ suc k) → Walk g (Joining g k) (end g s) ss j ⊎ Cut k (end g s) ss j → Walk g (Joining g k) i (s ∷ ss) j ⊎ Cut k i (s ∷ ss) j
      go (yes t) r = inr (record { before = []; at = s; after = ss; whole = refl; top = t; new = subst (λ p. Connected g (Before p) (g.from p) (g.to p) → ⊥) t a.2; walk_before = sym e; walk_after = low_walk k (end g s) ss j w (subst (λ p. Lacks p ss) t l); once_before = tt; once_after = o })
      go (no n) (inl v) = inl (e, low k (place s) a n, v)
      go (no n) (inr c) = inr (record { before = s ∷ c.before; at = c.at; after = c.after; whole = ap (λ xs. s ∷ xs) c.whole; top = c.top; new = c.new; walk_before = (e, low k (place s) a n, c.walk_before); walk_after = c.walk_after; once_before = (lacks-append (place s) c.before c.at c.after (subst (Lacks (place s)) c.whole l), c.once_before); once_after = c.once_after })

  early : (k i j : ℕ) → Connected g (Joining g k) i j → Connected g (Before (suc k)) i j
  early k i j (ss, w) = (ss, walk_more g (Joining g k) (Before (suc k)) (λ p h. (h.0, omega arith)) i ss j w)

  never : (k : ℕ) (s : Step) → place s ≡ suc k → (Connected g (Before (suc k)) (g.from (suc k)) (g.to (suc k)) → ⊥) → Connected g (Joining g k) (start g s) (end g s) → ⊥
  never k (Forward p) e new c = new (subst (λ x. Connected g (Before (suc k)) (g.from x) (g.to x)) e (early k (g.from p) (g.to p) c))
  never k (Backward p) e new c = new (subst (λ x. Connected g (Before (suc k)) (g.from x) (g.to x)) e (back g (Before (suc k)) (g.to p) (g.from p) (early k (g.to p) (g.from p) c)))

  same_or_turned : (s t : Step) → place s ≡ place t → (s ≡ t) ⊎ (end g s ≡ start g t)
  same_or_turned (Forward p) (Forward q) e = inl (ap Forward e)
  same_or_turned (Forward p) (Backward q) e = inr (ap g.to e)
  same_or_turned (Backward p) (Forward q) e = inr (ap g.from e)
  same_or_turned (Backward p) (Backward q) e = inl (ap Backward e)

  empty : (i : ℕ) (ss : List Step) (j : ℕ) → Walk g (Joining g 0) i ss j → ss ≡ []
  empty i [] j w = refl
  empty i (s ∷ ss) j (e, a, w) = absurd (omega arith)

  module _ (k i j : ℕ) (below : (i j : ℕ) (ss ts : List Step) → Walk g (Joining g k) i ss j → Walk g (Joining g k) i ts j → Once ss → Once ts → ss ≡ ts) where
    one_way : (ss ts : List Step) → Walk g (Joining g k) i ss j → Cut k i ts j → ⊥
    one_way ss ts w c =
        never k c.at c.top c.new
        (trans g (Joining g k) (start g c.at) i (end g c.at) (walk_back g (Joining g k) i c.before (start g c.at) c.walk_before)
        (trans g (Joining g k) i j (end g c.at) (ss, w) (walk_back g (Joining g k) (end g c.at) c.after j c.walk_after)))

    two_cuts : (ss ts : List Step) (c : Cut k i ss j) (d : Cut k i ts j) → (c.at ≡ d.at) ⊎ (end g c.at ≡ start g d.at) → ss ≡ ts
    two_cuts ss ts c d (inl e) =
        let xs : c.before ≡ d.before = below i (start g d.at) c.before d.before (subst (λ s. Walk g (Joining g k) i c.before (start g s)) e c.walk_before) d.walk_before c.once_before d.once_before in
        let ys : c.after ≡ d.after = below (end g d.at) j c.after d.after (subst (λ s. Walk g (Joining g k) (end g s) c.after j) e c.walk_after) d.walk_after c.once_after d.once_after in
        c.whole ∙ (λ n. xs n ++ e n ∷ ys n) ∙ sym d.whole
    two_cuts ss ts c d (inr e) =
        absurd (never k c.at c.top c.new
        (trans g (Joining g k) (start g c.at) i (end g c.at) (walk_back g (Joining g k) i c.before (start g c.at) c.walk_before)
        (subst (λ x. Connected g (Joining g k) i x) (sym e) (d.before, d.walk_before))))

    cuts : (ss ts : List Step) → Once ss → Once ts → Walk g (Joining g k) i ss j ⊎ Cut k i ss j → Walk g (Joining g k) i ts j ⊎ Cut k i ts j → ss ≡ ts
    cuts ss ts o p (inl v) (inl w) = below i j ss ts v w o p
    cuts ss ts o p (inl v) (inr d) = absurd (one_way ss ts v d)
    cuts ss ts o p (inr c) (inl w) = absurd (one_way ts ss w c)
    cuts ss ts o p (inr c) (inr d) = two_cuts ss ts c d (same_or_turned c.at d.at (c.top ∙ sym d.top))

  pub unique_once : (k i j : ℕ) (ss ts : List Step) → Walk g (Joining g k) i ss j → Walk g (Joining g k) i ts j → Once ss → Once ts → ss ≡ ts
  unique_once zero i j ss ts v w o p = empty i ss j v ∙ sym (empty i ts j w)
  unique_once (suc k) i j ss ts v w o p = cuts k i j (unique_once k) ss ts o p (cut k i ss j v o) (cut k i ts j w p)

  -- no switch twice, so no link twice
  meets : (A : ℕ → Type 0) (x : ℕ) (t : Step) (i : ℕ) (ss : List Step) (j : ℕ) → Walk g A i ss j → (start g t ≡ x) → AllByRecursion (λ y. y ≡ x → ⊥) (switches g i ss) → Lacks (place t) ss
  meets A x t i [] j w e h = tt
  meets A x t i (s ∷ ss) j (f, a, w) e (n, h) = (apart t s e f n h, meets A x t (end g s) ss j w e h)
    where
      head : (m : ℕ) (rs : List Step) → AllByRecursion (λ y. y ≡ x → ⊥) (switches g m rs) → m ≡ x → ⊥
      head m [] (q, z) = q
      head m (r ∷ rs) (q, z) = q

      apart : (t s : Step) → (start g t ≡ x) → (start g s ≡ i) → (i ≡ x → ⊥) → AllByRecursion (λ y. y ≡ x → ⊥) (switches g (end g s) ss) → place s ≡ place t → ⊥
      apart (Forward p) (Forward q) e f n h r = n (sym f ∙ ap g.from r ∙ e)
      apart (Forward p) (Backward q) e f n h r = head (g.from q) ss h (ap g.from r ∙ e)
      apart (Backward p) (Forward q) e f n h r = head (g.to q) ss h (ap g.to r ∙ e)
      apart (Backward p) (Backward q) e f n h r = n (sym f ∙ ap g.to r ∙ e)

  once : (A : ℕ → Type 0) (i : ℕ) (ss : List Step) (j : ℕ) → Walk g A i ss j → Distinct (switches g i ss) → Once ss
  once A i [] j w d = tt
  once A i (s ∷ ss) j (e, a, w) (h, d) = (meets A i s (end g s) ss j w e h, once A (end g s) ss j w d)

  pub unique_path : (k i j : ℕ) (ss ts : List Step) → Path g (Joining g k) i ss j → Path g (Joining g k) i ts j → ss ≡ ts
  unique_path k i j ss ts (v, c) (w, d) = unique_once k i j ss ts v w (once (Joining g k) i ss j v c) (once (Joining g k) i ts j w d)
