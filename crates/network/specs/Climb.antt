-- The forest of the joining links as code holds it: for each switch the step to its parent, or none at a root.
use Rattle.std.specs.Prelude.{◌≡◌, ℕ, zero, suc, ◌⊎◌, List, [], ◌∷◌, Some, None, Option}
use Rattle.network.specs.Graph.{Graph, place, start, end, Joining}
use Rattle.network.specs.declared.Step.{Step}
use Rattle.network.specs.declared.Step.TheVariants.{Forward, Backward}

-- from v, the steps up lead to the root r
abbrev pub Climb : Graph → (ℕ → Option Step) → ℕ → List Step → ℕ → Type 0
Climb g up v [] r = (v ≡ r) × (up v ≡ None)
Climb g up v (s ∷ ss) r = (up v ≡ Some s) × Climb g up (end g s) ss r

-- the link at p is the step up from one of its ends
abbrev pub Held : Graph → (ℕ → Option Step) → ℕ → Type 0
Held g up p = (up (g.from p) ≡ Some (Forward p)) ⊎ (up (g.to p) ≡ Some (Backward p))

pub record Forest (g : Graph) (k : ℕ) (up : ℕ → Option Step) : Type 0 where
  pub points : (v : ℕ) (s : Step) → up v ≡ Some s → (start g s ≡ v) × Joining g k (place s)
  pub climbs : (v : ℕ) → (ss : List Step) × (r : ℕ) × Climb g up v ss r
  pub held : (p : ℕ) → Joining g k p → Held g up p

-- the steps up from v, at most n of them
abbrev pub onward : (Step → List Step) → Option Step → List Step
onward f None = []
onward f (Some s) = s ∷ f s

abbrev pub ups : Graph → (ℕ → Option Step) → ℕ → ℕ → List Step
ups g up zero v = []
ups g up (suc n) v = onward (λ s. ups g up n (end g s)) (up v)
