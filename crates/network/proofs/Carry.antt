use Rattle.std.proofs.Common.{◌≡◌, ℕ, zero, suc, ◌<◌, ◌≤◌, ◌⊎◌, List, [], ◌∷◌, sym, refl, ap, ◌∙◌, subst, inl, inr, arith}
use native.Mathlib.Decide.{ℕ_discrete, dec_le}
use Rattle.kind.specs.Group.{Quantities}
use Rattle.network.specs.Graph.{Graph, Walk, Connected, Upto, Joining}
use Rattle.network.specs.declared.Step.{Step}
use Rattle.network.specs.declared.Step.TheVariants.{Forward, Backward}
use Rattle.network.specs.Offsets.{tally}
use Rattle.network.proofs.Sums.{sums, cancel}
use Rattle.network.proofs.Graph.{same, ahead, trans, back, near_dec}
use Rattle.network.proofs.Forest.{joined}

-- c differs by d over each link of A
abbrev pub Moves : (K : Quantities) → Graph → (ℕ → K.Q) → (ℕ → Type 0) → (ℕ → K.Q) → Type 0
Moves K g d A c = (p : ℕ) → A p → c (g.to p) ≡ K.plus (c (g.from p)) (d p)

module _ (K : Quantities) (g : Graph) (d : ℕ → K.Q) where
  open K use {Q, plus, minus}

  -- 1. the walk law
  pub walk_law : (A : ℕ → Type 0) (c : ℕ → Q) → Moves K g d A c → (i : ℕ) (ss : List Step) (j : ℕ) → Walk g A i ss j → c j ≡ plus (c i) (tally K d ss)
  walk_law A c m i [] j e = sym (ap c e) ∙ sym (simp sums)
  walk_law A c m i (Forward p ∷ ss) j (e, a, w) = walk_law A c m (g.to p) ss j w ∙ rw (m p a) (rw (← e) (simp sums))
  walk_law A c m i (Backward p ∷ ss) j (e, a, w) = walk_law A c m (g.from p) ss j w ∙ rw (← e) (rw (m p a) (simp sums))

  module _ (k : ℕ) (c : ℕ → Q) (m : Moves K g d (Upto k) c) where
    -- 2a. over connected switches two carrying offsets differ alike
    pub known : (b : ℕ → Q) → Moves K g d (Upto k) b → (i j : ℕ) → Connected g (Upto k) i j → plus (c j) (minus (c i)) ≡ plus (b j) (minus (b i))
    known b n i j (ss, w) = rw (walk_law (Upto k) c m i ss j w) (rw (walk_law (Upto k) b n i ss j w) (simp sums))

    -- the offsets with x added wherever i does not reach
    bump : {A : Type 0} → Dec A → Q → Q → Q
    bump (yes a) x y = y
    bump (no a) x y = plus y x

    pub shifted : ℕ → Q → ℕ → Q
    shifted i x v = bump (near_dec g k i v) x (c v)

    pub shifted_moves : (i : ℕ) (x : Q) → Moves K g d (Upto k) (shifted i x)
    unfolding shifted bump
    shifted_moves i x p u = go (near_dec g k i (g.from p)) (near_dec g k i (g.to p))
      where
        go : (a : Dec (Connected g (Upto k) i (g.from p))) (b : Dec (Connected g (Upto k) i (g.to p))) → bump b x (c (g.to p)) ≡ plus (bump a x (c (g.from p))) (d p)
        go (yes a) (yes b) = m p u
        go (no a) (no b) = rw (m p u) (simp sums)
        go (yes a) (no b) = absurd (b (trans g (Upto k) i (g.from p) (g.to p) a (ahead g (Upto k) (Forward p) u)))
        go (no a) (yes b) = absurd (a (trans g (Upto k) i (g.to p) (g.from p) b (ahead g (Upto k) (Backward p) u)))

    pub shifted_same : (i : ℕ) (x : Q) (j : ℕ) → Connected g (Upto k) i j → shifted i x j ≡ c j
    unfolding shifted bump
    shifted_same i x j n = go (near_dec g k i j)
      where
        go : (a : Dec (Connected g (Upto k) i j)) → bump a x (c j) ≡ c j
        go (yes a) = refl
        go (no a) = absurd (a n)

    pub shifted_more : (i : ℕ) (x : Q) (j : ℕ) → (Connected g (Upto k) i j → ⊥) → shifted i x j ≡ plus (c j) x
    unfolding shifted bump
    shifted_more i x j n = go (near_dec g k i j)
      where
        go : (a : Dec (Connected g (Upto k) i j)) → bump a x (c j) ≡ plus (c j) x
        go (yes a) = absurd (n a)
        go (no a) = refl

    -- 2b. between switches that are not connected nothing is known
    pub free : (i j : ℕ) → (Connected g (Upto k) i j → ⊥) → (b : ℕ → Q) × Moves K g d (Upto k) b × (plus (b j) (minus (b i)) ≡ plus (c j) (minus (c i)) → ⊥)
    free i j n = (shifted i x, shifted_moves i x, λ e. K.laws.some.1 (cancel K (plus (c j) (minus (c i))) x K.zero (regroup ∙ sym f ∙ e ∙ sym (simp sums))))
      where
        x : Q
        x = K.laws.some.0

        f : plus (shifted i x j) (minus (shifted i x i)) ≡ plus (plus (c j) x) (minus (c i))
        f = rw (shifted_more i x j n) (rw (shifted_same i x i (same g (Upto k) i i refl)) refl)

        regroup : plus (plus (c j) (minus (c i))) x ≡ plus (plus (c j) x) (minus (c i))
        regroup = simp sums

    -- 3a. a link between switches that are not connected can be added
    pub one_more : (b : ℕ → Q) → Moves K g d (Upto k) b → b (g.to (suc k)) ≡ plus (b (g.from (suc k))) (d (suc k)) → Moves K g d (Upto (suc k)) b
    one_more b n e p u = go (dec_le p k)
      where
        go : Dec (p ≤ k) → b (g.to p) ≡ plus (b (g.from p)) (d p)
        go (yes l) = n p (u.0, l)
        go (no l) = let q : suc k ≡ p = omega arith in subst (λ x. b (g.to x) ≡ plus (b (g.from x)) (d x)) q e

    pub grows : (Connected g (Upto k) (g.from (suc k)) (g.to (suc k)) → ⊥) → (b : ℕ → Q) × Moves K g d (Upto (suc k)) b
    grows n = (shifted i x, one_more (shifted i x) (shifted_moves i x) (rw (shifted_more i x j n) (rw (shifted_same i x i (same g (Upto k) i i refl)) (simp sums))))
      where
        i : ℕ
        i = g.from (suc k)

        j : ℕ
        j = g.to (suc k)

        x : Q
        x = plus (plus (c i) (d (suc k))) (minus (c j))

    -- 3b. a link between connected switches can be added just if the round has no difference
    module _ (ss : List Step) (w : Walk g (Upto k) (g.to (suc k)) ss (g.from (suc k))) where
      pub closes : plus (d (suc k)) (tally K d ss) ≡ K.zero → Moves K g d (Upto (suc k)) c
      closes z = one_more c m (rw (walk_law (Upto k) c m (g.to (suc k)) ss (g.from (suc k)) w) (sym (regroup ∙ ap (plus (c (g.to (suc k)))) z ∙ simp sums)))
        where
          regroup : plus (plus (c (g.to (suc k))) (tally K d ss)) (d (suc k)) ≡ plus (c (g.to (suc k))) (plus (d (suc k)) (tally K d ss))
          regroup = simp sums

  pub fewer : (A B : ℕ → Type 0) (c : ℕ → Q) → ((p : ℕ) → A p → B p) → Moves K g d B c → Moves K g d A c
  fewer A B c f m p a = m p (f p a)

  pub must_close : (k : ℕ) (c : ℕ → Q) → Moves K g d (Upto (suc k)) c → (ss : List Step) → Walk g (Upto k) (g.to (suc k)) ss (g.from (suc k)) → plus (d (suc k)) (tally K d ss) ≡ K.zero
  must_close k c m ss w = cancel K (c i) (plus (d (suc k)) (tally K d ss)) K.zero (regroup ∙ ap (λ x. plus x (tally K d ss)) (sym (m (suc k) (omega arith))) ∙ sym (walk_law (Upto k) c (fewer (Upto k) (Upto (suc k)) c (λ p h. omega arith) m) j ss i w) ∙ sym (simp sums))
    where
      i : ℕ
      i = g.from (suc k)

      j : ℕ
      j = g.to (suc k)

      regroup : plus (c i) (plus (d (suc k)) (tally K d ss)) ≡ plus (plus (c i) (d (suc k))) (tally K d ss)
      regroup = simp sums

  -- 4b. offsets that carry the joining links carry every link, if some offsets do
  pub joining_suffice : (k : ℕ) (c : ℕ → Q) → Moves K g d (Upto k) c → (b : ℕ → Q) → Moves K g d (Joining g k) b → Moves K g d (Upto k) b
  joining_suffice k c m b n p u = go (joined g k p u)
    where
      go : Connected g (Joining g k) (g.from p) (g.to p) → b (g.to p) ≡ plus (b (g.from p)) (d p)
      go (ss, w) =
          let x : plus (c (g.from p)) (d p) ≡ plus (c (g.from p)) (tally K d ss) = sym (m p u) ∙ walk_law (Joining g k) c (fewer (Joining g k) (Upto k) c (λ q h. (h.0, h.1)) m) (g.from p) ss (g.to p) w in
          walk_law (Joining g k) b n (g.from p) ss (g.to p) w ∙ ap (plus (b (g.from p))) (sym (cancel K (c (g.from p)) (d p) (tally K d ss) x))

  -- 4c. with the lowest switch of each group at zero, carrying offsets are unique
  find : (k v b : ℕ) → ((u : ℕ) → 1 ≤ u → u < b → Connected g (Upto k) v u → ⊥) ⊎ ((u : ℕ) × (1 ≤ u) × (u < b) × Connected g (Upto k) v u)
  find k v zero = inl (λ u h l c. omega arith)
  find k v (suc b) = go (find k v b) (near_dec g k v b) (dec_le 1 b)
    where
      go : ((u : ℕ) → 1 ≤ u → u < b → Connected g (Upto k) v u → ⊥) ⊎ ((u : ℕ) × (1 ≤ u) × (u < b) × Connected g (Upto k) v u) → Dec (Connected g (Upto k) v b) → Dec (1 ≤ b) → ((u : ℕ) → 1 ≤ u → u < suc b → Connected g (Upto k) v u → ⊥) ⊎ ((u : ℕ) × (1 ≤ u) × (u < suc b) × Connected g (Upto k) v u)
      go (inr (u, h, l, c)) y z = inr (u, h, omega arith, c)
      go (inl f) (yes c) (yes h) = inr (b, h, omega arith, c)
      go (inl f) (yes c) (no h) = inl (λ u a l x. omega arith)
      go (inl f) (no n) z = inl (λ u a l x. last u a l x (ℕ_discrete u b))
        where
          last : (u : ℕ) → 1 ≤ u → u < suc b → Connected g (Upto k) v u → Dec (u ≡ b) → ⊥
          last u a l x (yes e) = n (subst (λ y. Connected g (Upto k) v y) e x)
          last u a l x (no e) = f u a (omega arith) x

  abbrev pub Grounded : ℕ → (ℕ → Q) → Type 0
  Grounded k c = (v : ℕ) → 1 ≤ v → ((u : ℕ) → 1 ≤ u → Connected g (Upto k) v u → v ≤ u) → c v ≡ K.zero

  pub grounded_unique : (k : ℕ) (c b : ℕ → Q) → Moves K g d (Upto k) c → Moves K g d (Upto k) b → Grounded k c → Grounded k b → (n v : ℕ) → 1 ≤ v → v < n → c v ≡ b v
  grounded_unique k c b m n gc gb zero v h l = absurd (omega arith)
  grounded_unique k c b m n gc gb (suc t) v h l = go (λ u. grounded_unique k c b m n gc gb t u) (find k v v)
    where
      go : ((u : ℕ) → 1 ≤ u → u < t → c u ≡ b u) → ((u : ℕ) → 1 ≤ u → u < v → Connected g (Upto k) v u → ⊥) ⊎ ((u : ℕ) × (1 ≤ u) × (u < v) × Connected g (Upto k) v u) → c v ≡ b v
      go below (inl f) = let low : (u : ℕ) → 1 ≤ u → Connected g (Upto k) v u → v ≤ u = λ u a x. at_least u a x (dec_le v u) in gc v h low ∙ sym (gb v h low)
        where
          at_least : (u : ℕ) → 1 ≤ u → Connected g (Upto k) v u → Dec (v ≤ u) → v ≤ u
          at_least u a x (yes e) = e
          at_least u a x (no e) = absurd (f u a (omega arith) x)
      go below (inr (u, a, s, x)) = step (back g (Upto k) v u x)
        where
          step : Connected g (Upto k) u v → c v ≡ b v
          step (ss, w) = walk_law (Upto k) c m u ss v w ∙ ap (λ y. plus y (tally K d ss)) (below u a (omega arith)) ∙ sym (walk_law (Upto k) b n u ss v w)
