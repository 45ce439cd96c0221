-- Steps written into a row as step words.
use Rattle.std.specs.Prelude.{◌≡◌, ℕ, List, map, length, take, drop}
use Rattle.network.specs.declared.Step.{Step}
use Rattle.network.specs.Graph.{Graph}
use Rattle.network.specs.Climb.{Climb}
use Rattle.network.specs.Words.{word}
use Rattle.search.specs.Parents.{parents}

-- the first m places hold the words of the steps, and the others what they held
pub record Written (row row' : List ℕ) (m : ℕ) (steps : List Step) : Type 0 where
  pub count : length steps ≡ m
  pub front : take m row' ≡ map word steps
  pub rest : drop m row' ≡ drop m row

-- the way up from v stands in the row
abbrev pub Climbed : Graph → List ℕ → ℕ → List ℕ → List ℕ → ℕ → Type 0
Climbed g up v row row' m = (steps : List Step) × (r : ℕ) × Climb g (parents up) v steps r × Written row row' m steps
