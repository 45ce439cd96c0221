-- A joining link hung in the forest: the tree of its step's start, a root, under the step's end.
use Rattle.std.proofs.Common.{◌≡◌, ℕ, suc, List, [], ◌∷◌, Some, None, Option, sym, refl, ap, ◌∙◌, subst, inl, inr, arith}
use native.Mathlib.Decide.{ℕ_discrete}
use Rattle.network.specs.Graph.{Graph, place, start, end, Connected, Upto, Before, Joining}
use Rattle.network.specs.declared.Step.{Step}
use Rattle.network.specs.declared.Step.TheVariants.{Forward, Backward}
use Rattle.network.specs.Climb.{Climb, Held, Forest}
use Rattle.network.proofs.Graph.{back, walk_more}
use Rattle.network.proofs.Climb.{clash, one_step, other_misses, connected_of_root}
use Rattle.network.proofs.Turning.{Put, kept, all_climb}

joins : (g : Graph) (k : ℕ) (s : Step) → place s ≡ suc k → (Connected g (Upto k) (start g s) (end g s) → ⊥) → Connected g (Before (suc k)) (g.from (place s)) (g.to (place s)) → ⊥
joins g k (Forward p) e apart (ss, w) = apart (ss, walk_more g (Before (suc k)) (Upto k) (λ q h. omega arith) (g.from p) ss (g.to p) w)
joins g k (Backward p) e apart (ss, w) = apart (back g (Upto k) (g.from p) (g.to p) (ss, walk_more g (Before (suc k)) (Upto k) (λ q h. omega arith) (g.from p) ss (g.to p) w))

holds : (g : Graph) (up : ℕ → Option Step) (s : Step) → up (start g s) ≡ Some s → Held g up (place s)
holds g up (Forward p) e = inl e
holds g up (Backward p) e = inr e

module _ (g : Graph) (k : ℕ) (up : ℕ → Option Step) (f : Forest g k up) (s : Step) (here : place s ≡ suc k) (up' : ℕ → Option Step) (root : up (start g s) ≡ None)
    (apart : Connected g (Upto k) (start g s) (end g s) → ⊥) (put : Put up up' (start g s) (Some s)) where
  wider : (p : ℕ) → Joining g k p → Joining g (suc k) p
  wider p (a, b, c) = (a, omega arith, c)

  new : Joining g (suc k) (place s)
  new = (omega arith, omega arith, λ c. joins g k s here apart (subst (λ q. Connected g (Before q) (g.from (place s)) (g.to (place s))) here c))

  hung : (ss : List Step) (r : ℕ) → Climb g up (end g s) ss r → Climb g up' (start g s) (s ∷ ss) r
  hung ss r c = (put.there, kept g up up' (start g s) (Some s) put (end g s) ss r c (other_misses g up (start g s) [] (start g s) (refl, root) (end g s) ss r c (λ e. apart (connected_of_root g k up f (start g s) (end g s) r ([], (sym e, root)) (ss, c)))))

  pub hang : Forest g (suc k) up'
  hang =
      record {
        points = λ v t e. pts v t e (ℕ_discrete v (start g s));
        climbs = λ v. let c = f.climbs (end g s) in let b = f.climbs v in all_climb g up up' (start g s) (Some s) put (s ∷ c.0) c.1 (hung c.0 c.1 c.2) v b.0 b.1 b.2;
        held = λ p h. hld p h (ℕ_discrete p (suc k));
      }
    where
      pts : (v : ℕ) (t : Step) → up' v ≡ Some t → Dec (v ≡ start g s) → (start g t ≡ v) × Joining g (suc k) (place t)
      pts v t e (no n) = let h = f.points v t (sym (put.elsewhere v n) ∙ e) in (h.0, wider (place t) h.1)
      pts v t e (yes q) = let u = one_step (up' v) s t (ap up' q ∙ put.there) e in subst (λ u. (start g u ≡ v) × Joining g (suc k) (place u)) u (sym q, new)

      keep : (p : ℕ) → Held g up p → Held g up' p
      keep p (inl a) = inl (put.elsewhere (g.from p) (λ e. clash (up (g.from p)) (Forward p) a (ap up e ∙ root)) ∙ a)
      keep p (inr a) = inr (put.elsewhere (g.to p) (λ e. clash (up (g.to p)) (Backward p) a (ap up e ∙ root)) ∙ a)

      hld : (p : ℕ) → Joining g (suc k) p → Dec (p ≡ suc k) → Held g up' p
      hld p h (yes e) = subst (Held g up') (here ∙ sym e) (holds g up' s put.there)
      hld p (a, b, n) (no e) = keep p (f.held p (a, omega arith, n))
