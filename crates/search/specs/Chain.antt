-- Switches on the way up, as a stack holds them: v first, each above the one before it.
use Rattle.std.specs.Prelude.{◌≡◌, ℕ, ◌+◌, ◌<◌, ◌≤◌, List, Some, slice_index}
use Rattle.network.specs.declared.Step.{Step}
use Rattle.network.specs.Graph.{Graph, end}
use Rattle.search.specs.Parents.{parents}
use Rattle.search.specs.Records.{On}

pub record Chain (g : Graph) (n : ℕ) (up stack : List ℕ) (top : ℕ) : Type 0 where
  pub on : (i : ℕ) → i ≤ top → On n (slice_index stack i)
  pub above : (i : ℕ) → i < top → (s : Step) × (parents up (slice_index stack i) ≡ Some s) × (end g s ≡ slice_index stack (i + 1))
