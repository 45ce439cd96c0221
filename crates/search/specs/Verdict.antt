-- The steps shown with a link that contradicts the standing ones.
use Rattle.std.specs.Prelude.{◌≡◌, ℕ, List, [], ◌∷◌, ◌++◌, Result, MatchResult}
use Rattle.kind.specs.Group.{Quantities}
use Rattle.network.specs.declared.Step.{Step}
use Rattle.network.specs.Graph.{Path}
use Rattle.network.specs.Offsets.{Link, graph, Fits}
use Rattle.network.specs.Theorems.{Linked, Joins}
use Rattle.search.specs.Written.{Written}
use Rattle.search.specs.declared.errors.Contradiction.{Contradiction}

-- the one path of joining links from the link's second switch back to its first; none where nothing connects them
abbrev pub WayBack : (K : Quantities) → List (Link K.Q) → Link K.Q → List Step → Type 0
WayBack K links l steps = (Linked K links l.to l.from → Path (graph K links) (Joins K links) l.to steps l.from) × ((Linked K links l.to l.from → ⊥) → steps ≡ [])

abbrev pub Shown : (K : Quantities) → List (Link K.Q) → Link K.Q → List ℕ → List ℕ → ℕ → Type 0
Shown K links l row row' m = (steps : List Step) × WayBack K links l steps × Written row row' m steps

-- the verdict on a new link: it fits, and no step is written; or it does not, and the way back is shown
abbrev pub Judged : (K : Quantities) → List (Link K.Q) → Link K.Q → List ℕ → List ℕ → Result (Unit {0}) Contradiction → Type 0
Judged K links l row row' r = MatchResult r (λ _. Fits K (links ++ l ∷ []) × (row' ≡ row)) (λ e. (Fits K (links ++ l ∷ []) → ⊥) × Shown K links l row row' e.steps)
