-- What links tell of offsets: between two switches, and of all from the lowest switch of every group.
use Rattle.std.specs.Prelude.{◌≡◌, ℕ, ◌-◌, ◌*◌, ◌≤◌, List, map, Ok, Err, Result, slice_index_or}
use Rattle.kind.specs.Meaning.{Meaning}
use Rattle.network.specs.Offsets.{Carries, Fits}
use Rattle.network.specs.Theorems.{Linked}
use Rattle.search.specs.declared.link.Link.{Link as Record}
use Rattle.search.specs.declared.errors.Unknown.{Unknown}
use Rattle.search.specs.declared.errors.Unknown.TheVariants.{Torn, Apart}
use Rattle.search.specs.Records.{link_of, On}
use Rattle.search.specs.Settled.{offset}

module _ {L T : Type 0} (M : Meaning L T) (links : List (Record L)) where
  -- in all offsets that carry the links, j has q more than i
  abbrev pub Differ : ℕ → ℕ → M.quantities.Q → Type 0
  Differ i j q = (c : ℕ → M.quantities.Q) → Carries M.quantities c (map (link_of M) links) → M.quantities.plus (c j) (M.quantities.minus (c i)) ≡ q

  -- no offsets carry the links; or some do, and no walk leads from i to j; or one does, and j has t more than i in all of them. Of n switches, a way has fewer links than n.
  abbrev pub Tells : ℕ → ℕ → ℕ → Result T Unknown → Type 0
  Tells n i j (Err Torn) = Fits M.quantities (map (link_of M) links) → ⊥
  Tells n i j (Err Apart) = Fits M.quantities (map (link_of M) links) × (Linked M.quantities (map (link_of M) links) i j → ⊥)
  Tells n i j (Ok t) = Fits M.quantities (map (link_of M) links) × Linked M.quantities (map (link_of M) links) i j × Differ i j (M.total t) × M.within (2 * (n - 1)) t

  -- the row's offsets carry the links, and are zero at the lowest switch of every group
  abbrev pub Grounded : ℕ → List T → Type 0
  Grounded n row =
      Carries M.quantities (offset M row) (map (link_of M) links)
      × ((v : ℕ) → On n v → ((u : ℕ) → 1 ≤ u → Linked M.quantities (map (link_of M) links) v u → v ≤ u) → offset M row v ≡ M.quantities.zero)
      × ((v : ℕ) → On n v → (t : T) → M.within 16777216 (slice_index_or row (v - 1) t))
