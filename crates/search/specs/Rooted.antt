-- Groups as their lowest switches become the roots of their trees, one switch after another.
use Rattle.std.specs.Prelude.{◌≡◌, ℕ, ◌-◌, ◌≤◌, List, None, ◌≢◌, slice_index}
use Rattle.network.specs.Graph.{Graph}
use Rattle.network.specs.Climb.{Forest}
use Rattle.search.specs.Parents.{parents}
use Rattle.search.specs.Records.{On}
use Rattle.search.specs.Joined.{label}

-- no switch of v's group is below v
abbrev pub First : ℕ → List ℕ → ℕ → Type 0
First n labels v = On n v × ((u : ℕ) → On n u → label labels u ≡ label labels v → v ≤ u)

-- the first m switches are passed: marks tell which groups were met, and each of these has its root at its lowest
pub record Rooted (g : Graph) (k n : ℕ) (labels marks up : List ℕ) (m : ℕ) : Type 0 where
  pub forest : Forest g k (parents up)
  pub marked : (v : ℕ) → On n v → v ≤ m → slice_index marks (label labels v - 1) ≢ 0
  pub met : (v : ℕ) → On n v → (slice_index marks (label labels v - 1) ≢ 0) → (u : ℕ) × On n u × (u ≤ m) × (label labels u ≡ label labels v)
  pub roots : (v : ℕ) → First n labels v → v ≤ m → parents up v ≡ None
