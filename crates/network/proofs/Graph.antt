use Rattle.std.proofs.Common.{◌≡◌, ℕ, zero, suc, ◌≤◌, ◌⊎◌, List, [], ◌∷◌, ◌++◌, sym, refl, ap, subst, inl, inr, ⊎_elim, arith}
use native.Mathlib.Decide.{ℕ_discrete, dec_le}
use Rattle.network.specs.Graph.{Graph, place, start, end, Walk, Connected, Upto}
use Rattle.network.specs.declared.Step.{Step}
use Rattle.network.specs.declared.Step.TheVariants.{Forward, Backward}

module _ (g : Graph) (A : ℕ → Type 0) where
  pub same : (i j : ℕ) → i ≡ j → Connected g A i j
  same i j e = ([], e)

  pub ahead : (s : Step) → A (place s) → Connected g A (start g s) (end g s)
  ahead s a = (s ∷ [], (refl, a, refl))

  pub walk_trans : (i : ℕ) (ss : List Step) (j : ℕ) (ts : List Step) (k : ℕ) → Walk g A i ss j → Walk g A j ts k → Walk g A i (ss ++ ts) k
  walk_trans i [] j ts k e w = subst (λ x. Walk g A x ts k) (sym e) w
  walk_trans i (s ∷ ss) j ts k (e, a, v) w = (e, a, walk_trans (end g s) ss j ts k v w)

  pub trans : (i j k : ℕ) → Connected g A i j → Connected g A j k → Connected g A i k
  trans i j k u v = (u.0 ++ v.0, walk_trans i u.0 j v.0 k u.1 v.1)

  turn : (s : Step) → A (place s) → Connected g A (end g s) (start g s)
  turn (Forward p) a = ahead (Backward p) a
  turn (Backward p) a = ahead (Forward p) a

  pub walk_back : (i : ℕ) (ss : List Step) (j : ℕ) → Walk g A i ss j → Connected g A j i
  walk_back i [] j e = same j i (sym e)
  walk_back i (s ∷ ss) j (e, a, w) = subst (λ x. Connected g A j x) e (trans j (end g s) (start g s) (walk_back (end g s) ss j w) (turn s a))

  pub back : (i j : ℕ) → Connected g A i j → Connected g A j i
  back i j c = walk_back i c.0 j c.1

-- where the ends of each link of A are connected by B, A connects no more than B
module _ (g : Graph) (A B : ℕ → Type 0) (bridge : (p : ℕ) → A p → Connected g B (g.from p) (g.to p)) where
  bridge_step : (s : Step) → A (place s) → Connected g B (start g s) (end g s)
  bridge_step (Forward p) a = bridge p a
  bridge_step (Backward p) a = back g B (g.from p) (g.to p) (bridge p a)

  pub bridged : (i : ℕ) (ss : List Step) (j : ℕ) → Walk g A i ss j → Connected g B i j
  bridged i [] j e = same g B i j e
  bridged i (s ∷ ss) j (e, a, w) = subst (λ x. Connected g B x j) e (trans g B (start g s) (end g s) j (bridge_step s a) (bridged (end g s) ss j w))

-- fewer places, the same steps
pub walk_more : (g : Graph) (A B : ℕ → Type 0) → ((p : ℕ) → A p → B p) → (i : ℕ) (ss : List Step) (j : ℕ) → Walk g A i ss j → Walk g B i ss j
walk_more g A B f i [] j e = e
walk_more g A B f i (s ∷ ss) j (e, a, w) = (e, f (place s) a, walk_more g A B f (end g s) ss j w)

-- Whether two switches are connected by the first k links is decided, from how the last of them splits a walk.
module _ (g : Graph) where
  abbrev pub Near : ℕ → ℕ → ℕ → Type 0
  Near k i j = Connected g (Upto k) i j

  abbrev pub Through : ℕ → ℕ → ℕ → Type 0
  Through k i j = Near k i j ⊎ ((Near k i (g.from (suc k)) × Near k (g.to (suc k)) j) ⊎ (Near k i (g.to (suc k)) × Near k (g.from (suc k)) j))

  longer : (k i m j : ℕ) → Near k i m → Through k m j → Through k i j
  longer k i m j n (inl c) = inl (trans g (Upto k) i m j n c)
  longer k i m j n (inr (inl (a, b))) = inr (inl (trans g (Upto k) i m (g.from (suc k)) n a, b))
  longer k i m j n (inr (inr (a, b))) = inr (inr (trans g (Upto k) i m (g.to (suc k)) n a, b))

  cross : (k : ℕ) (s : Step) (j : ℕ) → place s ≡ suc k → Through k (end g s) j → Through k (start g s) j
  cross k (Forward p) j e (inl c) = inr (inl (same g (Upto k) (g.from p) (g.from (suc k)) (ap g.from e), subst (λ x. Near k (g.to x) j) e c))
  cross k (Forward p) j e (inr (inl (a, b))) = inr (inl (same g (Upto k) (g.from p) (g.from (suc k)) (ap g.from e), b))
  cross k (Forward p) j e (inr (inr (a, b))) = inl (subst (λ x. Near k (g.from x) j) (sym e) b)
  cross k (Backward p) j e (inl c) = inr (inr (same g (Upto k) (g.to p) (g.to (suc k)) (ap g.to e), subst (λ x. Near k (g.from x) j) e c))
  cross k (Backward p) j e (inr (inl (a, b))) = inl (subst (λ x. Near k (g.to x) j) (sym e) b)
  cross k (Backward p) j e (inr (inr (a, b))) = inr (inr (same g (Upto k) (g.to p) (g.to (suc k)) (ap g.to e), b))

  pub through : (k i : ℕ) (ss : List Step) (j : ℕ) → Walk g (Upto (suc k)) i ss j → Through k i j
  through k i [] j e = inl (same g (Upto k) i j e)
  through k i (s ∷ ss) j (e, a, w) = subst (λ x. Through k x j) e (go (dec_le (place s) k) (through k (end g s) ss j w))
    where
      go : Dec (place s ≤ k) → Through k (end g s) j → Through k (start g s) j
      go (yes l) t = longer k (start g s) (end g s) j (ahead g (Upto k) s (a.0, l)) t
      go (no l) t = cross k s j (omega arith) t

  pub widen : (k i j : ℕ) → Near k i j → Near (suc k) i j
  widen k i j (ss, w) = (ss, walk_more g (Upto k) (Upto (suc k)) (λ p h. omega arith) i ss j w)

  pub unthrough : (k i j : ℕ) → Through k i j → Near (suc k) i j
  unthrough k i j (inl c) = widen k i j c
  unthrough k i j (inr (inl (a, b))) = trans g (Upto (suc k)) i (g.from (suc k)) j (widen k i (g.from (suc k)) a) (trans g (Upto (suc k)) (g.from (suc k)) (g.to (suc k)) j (ahead g (Upto (suc k)) (Forward (suc k)) (omega arith)) (widen k (g.to (suc k)) j b))
  unthrough k i j (inr (inr (a, b))) = trans g (Upto (suc k)) i (g.to (suc k)) j (widen k i (g.to (suc k)) a) (trans g (Upto (suc k)) (g.to (suc k)) (g.from (suc k)) j (ahead g (Upto (suc k)) (Backward (suc k)) (omega arith)) (widen k (g.from (suc k)) j b))

  both : {A B : Type 0} → Dec A → Dec B → Dec (A × B)
  both (yes a) (yes b) = yes (a, b)
  both (yes a) (no b) = no (λ c. b c.1)
  both (no a) (yes b) = no (λ c. a c.0)
  both (no a) (no b) = no (λ c. a c.0)

  either : {A B : Type 0} → Dec A → Dec B → Dec (A ⊎ B)
  either (yes a) b = yes (inl a)
  either (no a) (yes b) = yes (inr b)
  either (no a) (no b) = no (⊎_elim a b)

  pub none : (i : ℕ) (ss : List Step) (j : ℕ) → Walk g (Upto 0) i ss j → i ≡ j
  none i [] j e = e
  none i (s ∷ ss) j (e, a, w) = omega arith

  moved : {A B : Type 0} → (A → B) → (B → A) → Dec A → Dec B
  moved f b (yes a) = yes (f a)
  moved f b (no a) = no (λ x. a (b x))

  pub near_dec : (k i j : ℕ) → Dec (Connected g (Upto k) i j)
  near_dec zero i j = moved (λ e. same g (Upto 0) i j e) (λ c. none i c.0 j c.1) (ℕ_discrete i j)
  near_dec (suc k) i j = moved (unthrough k i j) (λ c. through k i c.0 j c.1) (either (near_dec k i j) (either (both (near_dec k i (g.from (suc k))) (near_dec k (g.to (suc k)) j)) (both (near_dec k i (g.to (suc k))) (near_dec k (g.from (suc k)) j))))
