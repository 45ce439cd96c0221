-- Offsets of the switches, links that they carry, and lists of links that fit.
use Rattle.std.specs.Prelude.{◌≡◌, ℕ, zero, suc, List, [], ◌∷◌, length, slice_index_or}
use Rattle.kind.specs.Group.{Quantities}
use Rattle.network.specs.Graph.{Graph, Upto}
use Rattle.network.specs.declared.Step.{Step}
use Rattle.network.specs.declared.Step.TheVariants.{Forward, Backward}

pub record Link (Q : Type 0) : Type 0 where
  pub from : ℕ
  pub to : ℕ
  pub measured : Q
  pub wanted : Q

-- the sum over the steps of what f has at each place, negated where a step goes back
abbrev pub tally : (K : Quantities) → (ℕ → K.Q) → List Step → K.Q
tally K f [] = K.zero
tally K f (Forward p ∷ ss) = K.plus (f p) (tally K f ss)
tally K f (Backward p ∷ ss) = K.plus (K.minus (f p)) (tally K f ss)

module _ (K : Quantities) where
  abbrev pub nowhere : Link K.Q
  nowhere = record { from = 0; to = 0; measured = K.zero; wanted = K.zero }

  -- the link at position p, from 1
  abbrev pub at : List (Link K.Q) → ℕ → Link K.Q
  at links zero = nowhere
  at links (suc p) = slice_index_or links p nowhere

  abbrev pub graph : List (Link K.Q) → Graph
  graph links = record { from = λ p. (at links p).from; to = λ p. (at links p).to }

  abbrev pub Positions : List (Link K.Q) → ℕ → Type 0
  Positions links = Upto (length links)

  abbrev pub Carried : (ℕ → K.Q) → Link K.Q → Type 0
  Carried c l = l.wanted ≡ K.plus (K.plus l.measured (c l.to)) (K.minus (c l.from))

  abbrev pub Carries : (ℕ → K.Q) → List (Link K.Q) → Type 0
  Carries c links = (p : ℕ) → Positions links p → Carried c (at links p)

  abbrev pub Fits : List (Link K.Q) → Type 0
  Fits links = (c : ℕ → K.Q) × Carries c links

  abbrev pub difference : Link K.Q → K.Q
  difference l = K.plus l.wanted (K.minus l.measured)
