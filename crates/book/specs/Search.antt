-- What a search through a row found.
use Rattle.std.specs.Prelude.{◌≡◌, ℕ, ◌<◌, Bool, true, false, ◌⊎◌, List, length, Some, None, Option, slice_index_or}
use Rattle.search.specs.declared.link.Link.{Link}

abbrev pub Past : ℕ → ℕ → ℕ → Type 0
Past n from to = (n < from) ⊎ (n < to)

abbrev pub Joins : ℕ → ℕ → ℕ → ℕ → Type 0
Joins i j from to = (from ≡ i) × (to ≡ j)

-- some record's ends have it, at this place; none of them has it
abbrev pub Here : {L : Type 0} → (ℕ → ℕ → Type 0) → List (Link L) → ℕ → Type 0
Here {L} P xs k = (k < length xs) × ((d : Link L) → P (slice_index_or xs k d).from (slice_index_or xs k d).to)

abbrev pub Nowhere : {L : Type 0} → (ℕ → ℕ → Type 0) → List (Link L) → Type 0
Nowhere {L} P xs = (k : ℕ) → k < length xs → (d : Link L) → P (slice_index_or xs k d).from (slice_index_or xs k d).to → ⊥

abbrev pub Located : {L : Type 0} → (ℕ → ℕ → Type 0) → List (Link L) → Option ℕ → Type 0
Located P xs (Some k) = Here P xs k
Located P xs None = Nowhere P xs

abbrev pub Seen : {L : Type 0} → (ℕ → ℕ → Type 0) → List (Link L) → Bool → Type 0
Seen P xs true = (k : ℕ) × Here P xs k
Seen P xs false = Nowhere P xs
