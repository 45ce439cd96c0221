-- Switches in groups, while links are joined: each switch points to another of its group that has a higher rank, and the group's leader to itself.
use Rattle.std.specs.Prelude.{◌≡◌, ℕ, ◌<◌, ◌≤◌, cond, List, ◌==◌, ◌≢◌}
use Rattle.network.specs.Graph.{Graph}
use Rattle.network.specs.Climb.{Forest}
use Rattle.search.specs.Parents.{parents}
use Rattle.search.specs.Records.{On}
use Rattle.search.specs.Joined.{label, Labelled}

-- the pointers p rise by the ranks rk, of which none is above k: so they lead to an end
pub record Rising (k n : ℕ) (p rk : ℕ → ℕ) : Type 0 where
  pub inside : (v : ℕ) → On n v → On n (p v)
  pub rises : (v : ℕ) → On n v → (p v ≢ v) → rk v < rk (p v)
  pub low : (v : ℕ) → On n v → rk v ≤ k

-- l tells each switch's leader
pub record Leader (n : ℕ) (p l : ℕ → ℕ) : Type 0 where
  pub along : (v : ℕ) → On n v → l (p v) ≡ l v
  pub top : (v : ℕ) → On n v → p v ≡ v → l v ≡ v

-- the pointers lead from v to r, and no further
pub record Found (n : ℕ) (p rk : ℕ → ℕ) (v r : ℕ) : Type 0 where
  pub inside : On n r
  pub top : p r ≡ r
  pub higher : (r ≢ v) → rk v < rk r
  pub leader : (l : ℕ → ℕ) → Leader n p l → r ≡ l v

-- whoever b led, a leads
abbrev pub under : (ℕ → ℕ) → ℕ → ℕ → ℕ → ℕ
under l b a v = cond (l v == b) a (l v)

-- the joining links of the first k, while the labels are such pointers
pub record Grouped (g : Graph) (k n : ℕ) (labels ranks up : List ℕ) : Type 0 where
  pub forest : Forest g k (parents up)
  pub rising : Rising k n (label labels) (label ranks)
  pub leader : ℕ → ℕ
  pub leads : Leader n (label labels) leader
  pub labelled : Labelled g k n leader
