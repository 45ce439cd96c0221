-- Offsets read off the forest.
use Rattle.std.specs.Prelude.{◌≡◌, ℕ, ◌-◌, ◌*◌, List, map, length, ◌≢◌, slice_index, slice_index_or}
use Rattle.kind.specs.Group.{Quantities}
use Rattle.kind.specs.Meaning.{Meaning}
use Rattle.network.specs.declared.Step.{Step}
use Rattle.network.specs.declared.Step.TheVariants.{Forward, Backward}
use Rattle.network.specs.Climb.{Climb}
use Rattle.network.specs.Offsets.{tally, at, difference}
use Rattle.search.specs.declared.link.Link.{Link as Record}
use Rattle.search.specs.Parents.{parents}
use Rattle.search.specs.Records.{link_of, graph_of, On}

-- what a step adds
abbrev pub worth : (K : Quantities) → (ℕ → K.Q) → Step → K.Q
worth K d (Forward p) = d p
worth K d (Backward p) = K.minus (d p)

module _ {L T : Type 0} (M : Meaning L T) where
  -- what the link at each position wants more than it measured
  abbrev pub gap : List (Record L) → ℕ → M.quantities.Q
  gap links p = difference M.quantities (at M.quantities (map (link_of M) links) p)

  -- the total is what lies between v and its root
  abbrev pub Placed : List (Record L) → List ℕ → List T → ℕ → Type 0
  Placed links up row v =
      (ss : List Step) × (r : ℕ) × Climb (graph_of links) (parents up) v ss r
      × ((t : T) → (M.total (slice_index_or row (v - 1) t) ≡ M.quantities.minus (tally M.quantities (gap links) ss)) × M.within (2 * length ss) (slice_index_or row (v - 1) t))

  -- every marked switch has its offset
  abbrev pub Settled : List (Record L) → ℕ → List ℕ → List ℕ → List T → Type 0
  Settled links n up marks row = (v : ℕ) → On n v → (slice_index marks (v - 1) ≢ 0) → Placed links up row v

-- no mark is taken away
abbrev pub Kept : List ℕ → List ℕ → Type 0
Kept marks marks' = (u : ℕ) → (slice_index marks u ≢ 0) → slice_index marks' u ≢ 0

module _ {L T : Type 0} (M : Meaning L T) where
  -- the offsets that a row of totals means, that of switch 1 at place 0
  abbrev pub offset : List T → ℕ → M.quantities.Q
  offset row v = slice_index_or (map M.total row) (v - 1) M.quantities.zero

  abbrev pub Reached : ℕ → List T → Type 0
  Reached n row = (v : ℕ) → On n v → (t : T) → M.within 2048 (slice_index_or row (v - 1) t)
