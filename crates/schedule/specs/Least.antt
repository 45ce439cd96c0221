-- The least offsets that realise links, or a loop that rules out all offsets.
use Rattle.std.specs.Prelude.{◌≡◌, ℕ, ◌≤◌, true, false, List, [], ◌∷◌, length, Result, MatchResult}
use Rattle.kind.specs.Group.{Quantities}
use Rattle.kind.specs.Meaning.{Meaning}
use Rattle.network.specs.declared.Step.{Step}
use Rattle.network.specs.declared.Step.TheVariants.{Forward, Backward}
use Rattle.network.specs.Graph.{Graph, Walk, end, Distinct}
use Rattle.network.specs.Offsets.{Link, tally, at, graph, Positions}
use Rattle.search.specs.Written.{Written}
use Rattle.schedule.specs.declared.unrealisable.Unrealisable.{Unrealisable}

-- no step goes back
abbrev pub Onward : List Step → Type 0
Onward [] = Unit {0}
Onward (Forward p ∷ ss) = Onward ss
Onward (Backward p ∷ ss) = ⊥

-- the switches at which the steps end
abbrev pub ends : Graph → List Step → List ℕ
ends g [] = []
ends g (s ∷ ss) = end g s ∷ ends g ss

-- a loop: one or more forward steps that end where they began, no two of them at one switch
abbrev pub Loop : (K : Quantities) → List (Link K.Q) → List Step → Type 0
Loop K links steps = (v : ℕ) × Walk (graph K links) (Positions K links) v steps v × (1 ≤ length steps) × Onward steps × Distinct (ends (graph K links) steps)

module _ {L T : Type 0} (M : Meaning L T) where
  abbrev K : Quantities
  K = M.quantities

  open K use {Q, plus, minus}

  -- the offsets leave every link's measured latency at zero or above
  abbrev pub Leaves : List (Link Q) → (ℕ → Q) → Type 0
  Leaves links c = (p : ℕ) → Positions K links p → M.below (plus (plus (at K links p).measured (c (at K links p).to)) (minus (c (at K links p).from))) ≡ false

  -- and none of them is below zero
  abbrev pub Realises : ℕ → List (Link Q) → (ℕ → Q) → Type 0
  Realises n links c = ((v : ℕ) → 1 ≤ v → v ≤ n → M.below (c v) ≡ false) × Leaves links c

  -- no offsets that realise the links are less at any switch
  abbrev pub Least : ℕ → List (Link Q) → (ℕ → Q) → Type 0
  Least n links c = (b : ℕ → Q) → Realises n links b → (v : ℕ) → 1 ≤ v → v ≤ n → M.below (plus (b v) (minus (c v))) ≡ false

  -- a loop round which the measured latencies are below zero together
  abbrev pub NegativeLoop : List (Link Q) → List Step → Type 0
  NegativeLoop links steps = Loop K links steps × (M.below (tally K (λ p. (at K links p).measured) steps) ≡ true)

  -- The least offsets c, and no step is written; or a loop below zero, whose steps are, so that no offsets of any sign will do.
  abbrev pub Scheduled : ℕ → List (Link Q) → (ℕ → Q) → List ℕ → List ℕ → Result (Unit {0}) Unrealisable → Type 0
  Scheduled n links c row row' r =
      MatchResult r
      (λ _. Realises n links c × Least n links c × (row' ≡ row))
      (λ e. ((b : ℕ → Q) × Leaves links b → ⊥) × ((steps : List Step) × NegativeLoop links steps × Written row row' e.steps steps))
