use Rattle.std.proofs.Common.{◌≡◌, ℕ, ◌<◌, List, [], ◌∷◌, length, Some, None, Option, sym, refl, ap, ◌∙◌, subst, inl, inr, arith}
use Rattle.std.specs.List.{AllByRecursion}
use Rattle.network.specs.Graph.{Graph, end, Walk, Connected, Upto, Joining, switches, Distinct, Path}
use Rattle.network.specs.declared.Step.{Step}
use Rattle.network.specs.declared.Step.TheVariants.{Forward, Backward}
use Rattle.network.specs.Climb.{Climb, Held, Forest}
use Rattle.network.proofs.Graph.{trans, back}
use Rattle.network.proofs.Forest.{joining_connect, joining_no_more}

pub clash : (o : Option Step) (s : Step) → o ≡ Some s → o ≡ None → ⊥
clash o s a b = let z : ◌≡◌ {A = ℕ} 0 1 = cc in omega arith

pub one_step : (o : Option Step) (s t : Step) → o ≡ Some s → o ≡ Some t → s ≡ t
one_step o s t a b = cc

module _ (g : Graph) (up : ℕ → Option Step) where
  -- there is one way up
  pub one_climb : (v : ℕ) (ss : List Step) (r : ℕ) (ts : List Step) (q : ℕ) → Climb g up v ss r → Climb g up v ts q → (ss ≡ ts) × (r ≡ q)
  one_climb v [] r [] q (a, b) (c, e) = (refl, sym a ∙ c)
  one_climb v [] r (t ∷ ts) q (a, b) (c, e) = absurd (clash (up v) t c b)
  one_climb v (s ∷ ss) r [] q (a, b) (c, e) = absurd (clash (up v) s a e)
  one_climb v (s ∷ ss) r (t ∷ ts) q (a, b) (c, e) =
      let st : s ≡ t = one_step (up v) s t a c in
      let ih = one_climb (end g t) ss r ts q (subst (λ x. Climb g up (end g x) ss r) st b) e in
      (λ n. st n ∷ ih.0 n, ih.1)

  -- a climb that is shorter than v's does not pass v
  pub shorter_misses : (v : ℕ) (ts : List Step) (q : ℕ) → Climb g up v ts q → (w : ℕ) (ss : List Step) (r : ℕ) → Climb g up w ss r → length ss < length ts → AllByRecursion (λ y. y ≡ v → ⊥) (switches g w ss)
  shorter_misses v ts q c w [] r b l = (λ e. let z : length {A = Step} [] ≡ length ts = ap length (one_climb v [] r ts q (subst (λ x. Climb g up x [] r) e b) c).0 in omega arith, tt)
  shorter_misses v ts q c w (s ∷ ss) r b l = (λ e. let z : length (s ∷ ss) ≡ length ts = ap length (one_climb v (s ∷ ss) r ts q (subst (λ x. Climb g up x (s ∷ ss) r) e b) c).0 in omega arith, shorter_misses v ts q c (end g s) ss r b.1 (omega arith))

  -- a climb to another root than v's does not pass v
  pub other_misses : (v : ℕ) (ts : List Step) (q : ℕ) → Climb g up v ts q → (w : ℕ) (ss : List Step) (r : ℕ) → Climb g up w ss r → (r ≡ q → ⊥) → AllByRecursion (λ y. y ≡ v → ⊥) (switches g w ss)
  other_misses v ts q c w [] r b n = (λ e. n (one_climb v [] r ts q (subst (λ x. Climb g up x [] r) e b) c).1, tt)
  other_misses v ts q c w (s ∷ ss) r b n = (λ e. n (one_climb v (s ∷ ss) r ts q (subst (λ x. Climb g up x (s ∷ ss) r) e b) c).1, other_misses v ts q c (end g s) ss r b.1 n)

  -- a climb passes no switch twice
  pub climb_distinct : (v : ℕ) (ss : List Step) (r : ℕ) → Climb g up v ss r → Distinct (switches g v ss)
  climb_distinct v [] r c = (tt, tt)
  climb_distinct v (s ∷ ss) r c = (shorter_misses v (s ∷ ss) r c (end g s) ss r c.1 (omega arith), climb_distinct (end g s) ss r c.1)

  pub root_none : (v : ℕ) (ss : List Step) (r : ℕ) → Climb g up v ss r → up r ≡ None
  root_none v [] r (a, b) = sym (ap up a) ∙ b
  root_none v (s ∷ ss) r (a, b) = root_none (end g s) ss r b

module _ (g : Graph) (k : ℕ) (up : ℕ → Option Step) (f : Forest g k up) where
  pub climb_walk : (v : ℕ) (ss : List Step) (r : ℕ) → Climb g up v ss r → Walk g (Joining g k) v ss r
  climb_walk v [] r (a, b) = a
  climb_walk v (s ∷ ss) r (a, b) = ((f.points v s a).0, (f.points v s a).1, climb_walk (end g s) ss r b)

  -- the way up is a path of joining links
  pub climb_path : (v : ℕ) (ss : List Step) (r : ℕ) → Climb g up v ss r → Path g (Joining g k) v ss r
  climb_path v ss r c = (climb_walk v ss r c, climb_distinct g up v ss r c)

  abbrev Root : ℕ → ℕ → Type 0
  Root v r = (ss : List Step) × Climb g up v ss r

  held_root : (p r : ℕ) → Held g up p → Root (g.from p) r → Root (g.to p) r
  held_root p r (inl a) ([], c) = absurd (clash (up (g.from p)) (Forward p) a c.1)
  held_root p r (inl a) (s ∷ ss, c) = (ss, subst (λ t. Climb g up (end g t) ss r) (one_step (up (g.from p)) s (Forward p) c.0 a) c.1)
  held_root p r (inr a) (ss, c) = (Backward p ∷ ss, (a, c))

  held_back : (p r : ℕ) → Held g up p → Root (g.to p) r → Root (g.from p) r
  held_back p r (inr a) ([], c) = absurd (clash (up (g.to p)) (Backward p) a c.1)
  held_back p r (inr a) (s ∷ ss, c) = (ss, subst (λ t. Climb g up (end g t) ss r) (one_step (up (g.to p)) s (Backward p) c.0 a) c.1)
  held_back p r (inl a) (ss, c) = (Forward p ∷ ss, (a, c))

  root_along : (i : ℕ) (ss : List Step) (j r : ℕ) → Walk g (Joining g k) i ss j → Root i r → Root j r
  root_along i [] j r e x = subst (λ v. Root v r) e x
  root_along i (Forward p ∷ ss) j r (e, a, w) x = root_along (g.to p) ss j r w (held_root p r (f.held p a) (subst (λ v. Root v r) (sym e) x))
  root_along i (Backward p ∷ ss) j r (e, a, w) x = root_along (g.from p) ss j r w (held_back p r (f.held p a) (subst (λ v. Root v r) (sym e) x))

  -- connected is: the same root
  pub root_of_connected : (i j r : ℕ) → Connected g (Upto k) i j → Root i r → Root j r
  root_of_connected i j r c x = let d = joining_connect g k i j c in root_along i d.0 j r d.1 x

  pub connected_of_root : (i j r : ℕ) → Root i r → Root j r → Connected g (Upto k) i j
  connected_of_root i j r (ss, a) (ts, b) = joining_no_more g k i j (trans g (Joining g k) i r j (ss, climb_walk i ss r a) (back g (Joining g k) j r (ts, climb_walk j ts r b)))
