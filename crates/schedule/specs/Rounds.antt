-- What holds after k rounds. In each, a link whose sender the round before raised may raise its receiver.
use Rattle.std.specs.Prelude.{◌≡◌, ℕ, zero, suc, ◌<◌, ◌≤◌, true, false, ◌⊎◌, List, [], ◌∷◌}
use Rattle.kind.specs.Meaning.{Meaning}
use Rattle.network.specs.declared.Step.{Step}
use Rattle.network.specs.declared.Step.TheVariants.{Forward}
use Rattle.network.specs.Graph.{Graph}
use Rattle.network.specs.Offsets.{Link, at, Positions}
use Rattle.search.specs.Records.{On}
use Rattle.schedule.specs.Least.{Least}

-- each switch's offset, the round that last raised it (0: none did), and the position of the link that it was raised for
pub record State (Q : Type 0) : Type 0 where
  pub offset : ℕ → Q
  pub stamp : ℕ → ℕ
  pub pred : ℕ → ℕ

module _ {L T : Type 0} (M : Meaning L T) where
  open M.quantities use {Q, plus, minus}

  abbrev pub Less : Q → Q → Type 0
  Less x y = M.below (plus x (minus y)) ≡ true

  abbrev pub AtMost : Q → Q → Type 0
  AtMost x y = M.below (plus y (minus x)) ≡ false

  module _ (links : List (Link Q)) where
    abbrev link : ℕ → Link Q
    link p = at M.quantities links p

    -- Switch v was last raised for the link at p, which is now either short, or level with a sender that was raised one round before.
    pub record Led (s : State Q) (v p : ℕ) : Type 0 where
      pub on : Positions M.quantities links p
      pub ends : (link p).to ≡ v
      pub near : s.stamp v ≤ suc (s.stamp (link p).from)
      pub tied :
          Less (plus (link p).measured (s.offset v)) (s.offset (link p).from)
          ⊎ ((plus (link p).measured (s.offset v) ≡ s.offset (link p).from) × (s.stamp v ≡ suc (s.stamp (link p).from)))

    pub record After (n k : ℕ) (s : State Q) : Type 0 where
      pub early : (v : ℕ) → On n v → s.stamp v ≤ k
      -- a link whose sender round k did not raise is left no latency below zero
      pub closed : (p : ℕ) → Positions M.quantities links p → s.stamp (link p).from < k → AtMost (s.offset (link p).from) (plus (link p).measured (s.offset (link p).to))
      pub led : (v : ℕ) → On n v → 1 ≤ s.stamp v → Led s v (s.pred v)
      pub up : (v : ℕ) → 1 ≤ v → v ≤ n → M.below (s.offset v) ≡ false
      pub least : Least M n links s.offset

-- the switch that is t links back from v, each the one that its receiver was raised for; and the steps from there to v
abbrev pub back : Graph → (ℕ → ℕ) → ℕ → ℕ → ℕ
back g pred v zero = v
back g pred v (suc t) = g.from (pred (back g pred v t))

abbrev pub trail : Graph → (ℕ → ℕ) → ℕ → ℕ → List Step
trail g pred v zero = []
trail g pred v (suc t) = Forward (pred (back g pred v t)) ∷ trail g pred v t
