-- The bytes of a line of the report: fields with one space between, and a byte 10 at the end.
use Rattle.std.specs.Prelude.{◌≡◌, ℕ, zero, suc, ◌-◌, List, [], ◌∷◌, ◌++◌, map, length, codes, decimal, slice_index_or}
use Rattle.text.specs.Writing.{hex}
use Rattle.kind.specs.Meaning.{Meaning}
use Rattle.network.specs.Words.{word}
use Rattle.search.specs.Records.{On}
use Rattle.calls.specs.State.{done, total, totals, offsets, refused}
use Rattle.calls.specs.Refusals.{number_of}
use Rattle.report.specs.Entries.{Item, size, link, strike, offset, all_offsets, realise, issue, recall, walk, file_number, file_place}
use Rattle.report.specs.Doing.{Outcome, unmade, answered}
use Rattle.report.specs.declared.file.FileFault.{FileFault}

-- words as eight hexadecimal digits each, a space before each
abbrev pub hexes : List ℕ → List ℕ
hexes [] = []
hexes (w ∷ ws) = 32 ∷ (hex 8 w ++ hexes ws)

-- two switches after a call's name
abbrev pub pair : ℕ → ℕ → List ℕ
pair i j = decimal i ++ (codes " " ++ decimal j)

abbrev pub asked : Item → List ℕ
asked (size n) = codes "SIZE " ++ decimal n
asked (link i j m w) = codes "LINK " ++ pair i j
asked (strike i j) = codes "STRIKE " ++ pair i j
asked (offset i j) = codes "OFFSET " ++ pair i j
asked all_offsets = codes "OFFSETS"
asked realise = codes "REALISE"
asked issue = codes "ISSUE"
asked recall = codes "RECALL"
asked (walk ws) = codes "WALK"

-- the offsets of the switches 1 to n, a space before each
abbrev pub listed : {L T : Type 0} (M : Meaning L T) → (ℕ → M.quantities.Q) → ℕ → List ℕ
listed M c zero = []
listed M c (suc v) = listed M c v ++ (32 ∷ M.text (c (suc v)))

-- the totals of a row mean these offsets, switch by switch, and are within reach
abbrev pub Holds : {L T : Type 0} (M : Meaning L T) → (ℕ → M.quantities.Q) → List T → Type 0
Holds {T = T} M c row = (v : ℕ) → On (length row) v → (t : T) → M.within 16777216 (slice_index_or row (v - 1) t) × (M.total (slice_index_or row (v - 1) t) ≡ c v)

-- OK and the totals, or NO, the number and the step words; on a book of n switches
abbrev pub told : {L T : Type 0} (M : Meaning L T) → ℕ → Outcome M.quantities.Q → List ℕ
told M n (unmade f) = codes " NO 1"
told M n (answered done) = codes " OK"
told M n (answered (total q)) = codes " OK " ++ M.text q
told M n (answered (totals p q)) = codes " OK " ++ (M.text p ++ (codes " " ++ M.text q))
told M n (answered (offsets c)) = codes " OK" ++ listed M c n
told M n (answered (refused e moves)) = codes " NO " ++ (decimal (number_of e) ++ hexes (map word moves))

abbrev pub line_of : {L T : Type 0} (M : Meaning L T) → ℕ → Item → Outcome M.quantities.Q → List ℕ
line_of M n e o = asked e ++ (told M n o ++ codes "\n")

abbrev pub fault_line : FileFault → List ℕ
fault_line f = codes "FILE " ++ (decimal (file_place f) ++ (codes " NO " ++ (decimal (file_number f) ++ codes "\n")))
