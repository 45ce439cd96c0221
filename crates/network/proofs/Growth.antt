-- One more link: a forest of k links becomes one of k + 1.
use Rattle.std.proofs.Common.{◌≡◌, ℕ, suc, List, [], ◌∷◌, ◌++◌, Some, None, Option, sym, refl, ap, ◌∙◌, subst, inl, inr, append-nil, arith}
use native.Mathlib.Decide.{ℕ_discrete}
use Rattle.network.specs.Graph.{Graph, place, start, Connected, Upto, Before, Joining, Path}
use Rattle.network.specs.declared.Step.{Step}
use Rattle.network.specs.declared.Step.TheVariants.{Forward, Backward}
use Rattle.network.specs.Climb.{Climb, Held, Forest}
use Rattle.network.proofs.Graph.{walk_more}
use Rattle.network.proofs.Climb.{clash, one_step, one_climb, other_misses, climb_path, root_of_connected, connected_of_root}
use Rattle.network.proofs.Turning.{Put, kept, all_climb}

pub no_links : (g : Graph) (up : ℕ → Option Step) → ((v : ℕ) → up v ≡ None) → Forest g 0 up
no_links g up n = record { points = λ v s e. absurd (clash (up v) s e (n v)); climbs = λ v. ([], v, (refl, n v)); held = λ p j. absurd (omega arith) }

module _ (g : Graph) (k : ℕ) (up : ℕ → Option Step) (f : Forest g k up) where
  wider : (p : ℕ) → Joining g k p → Joining g (suc k) p
  wider p (a, b, c) = (a, omega arith, c)

  pub near_before : (i j : ℕ) → Connected g (Upto k) i j → Connected g (Before (suc k)) i j
  near_before i j (ss, w) = (ss, walk_more g (Upto k) (Before (suc k)) (λ p h. omega arith) i ss j w)

  pub before_near : (i j : ℕ) → Connected g (Before (suc k)) i j → Connected g (Upto k) i j
  before_near i j (ss, w) = (ss, walk_more g (Before (suc k)) (Upto k) (λ p h. omega arith) i ss j w)

  -- its ends are connected already: the forest stays
  pub skip : Connected g (Upto k) (g.from (suc k)) (g.to (suc k)) → Forest g (suc k) up
  skip c = record { points = λ v s e. ((f.points v s e).0, wider (place s) (f.points v s e).1); climbs = f.climbs; held = λ p j. go p j (ℕ_discrete p (suc k)) }
    where
      go : (p : ℕ) → Joining g (suc k) p → Dec (p ≡ suc k) → Held g up p
      go p (a, b, n) (yes e) = absurd (n (subst (λ q. Connected g (Before q) (g.from q) (g.to q)) (sym e) (near_before (g.from (suc k)) (g.to (suc k)) c)))
      go p (a, b, n) (no e) = f.held p (a, omega arith, n)

  -- they are not: the second end, a root, is hung under the first
  module _ (up' : ℕ → Option Step) (root : up (g.to (suc k)) ≡ None) (apart : Connected g (Upto k) (g.from (suc k)) (g.to (suc k)) → ⊥) (put : Put up up' (g.to (suc k)) (Some (Backward (suc k)))) where
    new : Joining g (suc k) (suc k)
    new = (omega arith, omega arith, λ c. apart (before_near (g.from (suc k)) (g.to (suc k)) c))

    hung : (ss : List Step) (r : ℕ) → Climb g up (g.from (suc k)) ss r → Climb g up' (g.to (suc k)) (Backward (suc k) ∷ ss) r
    hung ss r c = (put.there, kept g up up' (g.to (suc k)) (Some (Backward (suc k))) put (g.from (suc k)) ss r c (other_misses g up (g.to (suc k)) [] (g.to (suc k)) (refl, root) (g.from (suc k)) ss r c (λ e. apart (connected_of_root g k up f (g.from (suc k)) (g.to (suc k)) r (ss, c) ([], (sym e, root))))))

    pub hang : Forest g (suc k) up'
    hang = record { points = λ v s e. pts v s e (ℕ_discrete v (g.to (suc k))); climbs = λ v. let c = f.climbs (g.from (suc k)) in let b = f.climbs v in all_climb g up up' (g.to (suc k)) (Some (Backward (suc k))) put (Backward (suc k) ∷ c.0) c.1 (hung c.0 c.1 c.2) v b.0 b.1 b.2; held = λ p h. hld p h (ℕ_discrete p (suc k)) }
      where
        pts : (v : ℕ) (s : Step) → up' v ≡ Some s → Dec (v ≡ g.to (suc k)) → (start g s ≡ v) × Joining g (suc k) (place s)
        pts v s e (no n) = let h = f.points v s (sym (put.elsewhere v n) ∙ e) in (h.0, wider (place s) h.1)
        pts v s e (yes q) = let t = one_step (up' v) (Backward (suc k)) s (ap up' q ∙ put.there) e in subst (λ u. (start g u ≡ v) × Joining g (suc k) (place u)) t (sym q, new)

        keep : (p : ℕ) → Held g up p → Held g up' p
        keep p (inl a) = inl (put.elsewhere (g.from p) (λ e. clash (up (g.from p)) (Forward p) a (ap up e ∙ root)) ∙ a)
        keep p (inr a) = inr (put.elsewhere (g.to p) (λ e. clash (up (g.to p)) (Backward p) a (ap up e ∙ root)) ∙ a)

        hld : (p : ℕ) → Joining g (suc k) p → Dec (p ≡ suc k) → Held g up' p
        hld p h (yes e) = subst (Held g up') (sym e) (inr put.there)
        hld p (a, b, n) (no e) = keep p (f.held p (a, omega arith, n))

  -- with i a root, the way up from a switch connected with i is the path of joining links to it
  pub path_up : (i v : ℕ) → up i ≡ None → Connected g (Upto k) i v → (ss : List Step) × Climb g up v ss i × Path g (Joining g k) v ss i
  path_up i v n c = let r = root_of_connected g k up f i v i c ([], (refl, n)) in (r.0, r.1, climb_path g k up f v r.0 i r.1)

-- What the code finds at the next place, m: equal roots, and the forest stays; other roots, and it grows.
abbrev Stays : Graph → ℕ → (ℕ → Option Step) → ℕ → Type 0
Stays g k up m = (r : ℕ) → (ss : List Step) × Climb g up (g.from m) ss r → (ss : List Step) × Climb g up (g.to m) ss r → Forest g m up × (Joining g m m → ⊥)

abbrev Grows : Graph → ℕ → (ℕ → Option Step) → ℕ → Type 0
Grows g k up m = (r q : ℕ) → (ss : List Step) × Climb g up (g.from m) ss r → (ss : List Step) × Climb g up (g.to m) ss q → (r ≡ q → ⊥)
    → (up₁ up₂ : ℕ → Option Step) → Forest g k up₁ → up₁ (g.to m) ≡ None → Put up₁ up₂ (g.to m) (Some (Backward m)) → Forest g m up₂ × Joining g m m

module _ (g : Graph) (k : ℕ) (up : ℕ → Option Step) (f : Forest g k up) where
  stays_suc : Stays g k up (suc k)
  stays_suc r a b = let c = connected_of_root g k up f (g.from (suc k)) (g.to (suc k)) r a b in (skip g k up f c, λ j. j.2 (near_before g k up f (g.from (suc k)) (g.to (suc k)) c))

  pub stays : (m : ℕ) → m ≡ suc k → Stays g k up m
  stays m e = subst (Stays g k up) (sym e) stays_suc

  grows_suc : Grows g k up (suc k)
  grows_suc r q (ss, a) (ts, b) ne up₁ up₂ f₁ n put = (hang g k up₁ f₁ up₂ n apart put, (omega arith, omega arith, λ c. apart (before_near g k up f (g.from (suc k)) (g.to (suc k)) c)))
    where
      apart : Connected g (Upto k) (g.from (suc k)) (g.to (suc k)) → ⊥
      apart c = let h = root_of_connected g k up f (g.from (suc k)) (g.to (suc k)) r c (ss, a) in ne (one_climb g up (g.to (suc k)) h.0 r ts q h.1 b).1

  pub grows : (m : ℕ) → m ≡ suc k → Grows g k up m
  grows m e = subst (Grows g k up) (sym e) grows_suc

  -- the steps that a loop gathered on the way up to its end are the path to i
  pub found : (i v : ℕ) → up i ≡ None → Connected g (Upto k) i v → (xs : List Step) (x : ℕ) → Climb g up v (xs ++ []) x → Path g (Joining g k) v xs i
  found i v n c xs x h = let p = path_up g k up f i v n c in subst (λ ss. Path g (Joining g k) v ss i) ((one_climb g up v p.0 i (xs ++ []) x p.1 h).0 ∙ append-nil xs) p.2
