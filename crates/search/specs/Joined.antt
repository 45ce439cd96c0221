-- The joining links of the first k, as the rows hold them: labels that tell what is connected, and the forest.
use Rattle.std.specs.Prelude.{◌≡◌, ℕ, ◌-◌, List, slice_index}
use Rattle.network.specs.Graph.{Graph, Connected, Upto}
use Rattle.network.specs.Climb.{Forest}
use Rattle.search.specs.Parents.{parents}
use Rattle.search.specs.Records.{On}

abbrev pub label : List ℕ → ℕ → ℕ
label row v = slice_index row (v - 1)

-- equal labels are: connected by the first k links
abbrev pub Labelled : Graph → ℕ → ℕ → (ℕ → ℕ) → Type 0
Labelled g k n l = (u v : ℕ) → On n u → On n v → (l u ≡ l v → Connected g (Upto k) u v) × (Connected g (Upto k) u v → l u ≡ l v)

pub record Joined (g : Graph) (k n : ℕ) (labels up : List ℕ) : Type 0 where
  pub forest : Forest g k (parents up)
  pub labelled : Labelled g k n (label labels)
  pub inside : (v : ℕ) → On n v → On n (label labels v)
