-- Link records as links of a network.
use Rattle.std.specs.Prelude.{ℕ, ◌<◌, ◌≤◌, List, ◌∷◌, map, length, slice_index, slice_index_or}
use Rattle.kind.specs.Meaning.{Meaning}
use Rattle.network.specs.Graph.{Graph}
use Rattle.network.specs.Offsets.{Link}
use Rattle.search.specs.declared.link.Link.{Link as Record}

abbrev pub link_of : {L T : Type 0} (M : Meaning L T) → Record L → Link M.quantities.Q
link_of M r = record { from = r.from; to = r.to; measured = M.latency r.measured; wanted = M.latency r.wanted }

abbrev pub first : {L : Type 0} → Record L → ℕ
first r = r.from

abbrev pub second : {L : Type 0} → Record L → ℕ
second r = r.to

-- the ends of the links, by position from 1
abbrev pub graph_of : {L : Type 0} → List (Record L) → Graph
graph_of links = record { from = λ p. slice_index (0 ∷ map first links) p; to = λ p. slice_index (0 ∷ map second links) p }

abbrev pub On : ℕ → ℕ → Type 0
On n v = (1 ≤ v) × (v ≤ n)

-- every record's ends are switches
abbrev pub Sound : {L : Type 0} → ℕ → List (Record L) → Type 0
Sound {L} n links = (k : ℕ) → k < length links → (d : Record L) → (1 ≤ (slice_index_or links k d).from) × ((slice_index_or links k d).from ≤ n) × (1 ≤ (slice_index_or links k d).to) × ((slice_index_or links k d).to ≤ n)
