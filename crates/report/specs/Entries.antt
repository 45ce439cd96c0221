-- What a file says next: a call with its words, a fault, or nothing more.
use Rattle.std.specs.Prelude.{ℕ, ◌+◌, ◌%◌, cond, List, [], ◌∷◌, length, take, ℤ, Some, None, Ok, Err, Option, Result, ◌==◌, nat_lt}
use Rattle.report.specs.Words.{words_of, sort, body, first, second, signed28}
use Rattle.report.specs.declared.file.Entry.{Entry}
use Rattle.report.specs.declared.file.Entry.TheVariants.{Size, Link, Strike, Offset, Offsets, Realise, Issue, Recall, Walk}
use Rattle.report.specs.declared.file.FileFault.{FileFault}
use Rattle.report.specs.declared.file.FileFault.TheVariants.{Long, Ragged, NoHead, Stray}
use Rattle.report.specs.declared.file.FileKind.{FileKind}
use Rattle.report.specs.declared.file.FileKind.TheVariants.{Ticks, CyclePlaces}

-- a call of a file, with what its words hold
pub data Item : Type 0 where
  size : ℕ → Item
  link : ℕ → ℕ → ℤ → ℤ → Item
  strike : ℕ → ℕ → Item
  offset : ℕ → ℕ → Item
  all_offsets : Item
  realise : Item
  issue : Item
  recall : Item
  walk : List ℕ → Item

-- as the code has it
abbrev pub item_of : Entry → Item
item_of (Size n) = size n
item_of (Link l) = link l.from l.to l.measured l.wanted
item_of (Strike i j) = strike i j
item_of (Offset i j) = offset i j
item_of Offsets = all_offsets
item_of Realise = realise
item_of Issue = issue
item_of Recall = recall
item_of (Walk bytes) = walk (words_of bytes.now)

abbrev pub Found : Type 0
Found = Result (Option Item) FileFault

abbrev pub found_of : Result (Option Entry) FileFault → Found
found_of (Ok None) = Ok None
found_of (Ok (Some e)) = Ok (Some (item_of e))
found_of (Err f) = Err f

abbrev pub entry : Item → Found
entry e = Ok (Some e)

abbrev pub stray : ℕ → Found
stray p = Err (Stray p)

-- the words of LINK past its first, which is word p
abbrev pub link_of : ℕ → ℕ → List ℕ → Found
link_of p w [] = stray (p + 1)
link_of p w (m ∷ []) = cond (sort m == 4) (stray (p + 2)) (stray (p + 1))
link_of p w (m ∷ v ∷ ws) =
    cond (sort m == 4)
    (cond (sort v == 5) (entry (link (first w) (second w) (signed28 m) (signed28 v))) (stray (p + 2)))
    (stray (p + 1))

-- the words of WALK past its first, which is word p and counts them
abbrev pub walk_of : ℕ → ℕ → List ℕ → Found
walk_of p n ws = cond (nat_lt 1024 n) (stray p) (cond (nat_lt (length ws) n) (stray (p + 1 + length ws)) (entry (walk (take n ws))))

-- a call of one word whose body is zero
abbrev pub bare_of : ℕ → ℕ → Found
bare_of p w =
    cond (w == 0x8000_0000) (entry all_offsets)
    (cond (w == 0x9000_0000) (entry realise)
    (cond (w == 0xC000_0000) (entry issue)
    (cond (w == 0xD000_0000) (entry recall)
    (stray p))))

-- a call of one word
abbrev pub word_of : ℕ → ℕ → Found
word_of p w =
    cond (sort w == 2) (entry (size (body w)))
    (cond (sort w == 6) (entry (strike (first w) (second w)))
    (cond (sort w == 7) (entry (offset (first w) (second w)))
    (bare_of p w)))

-- the call that begins with word p
abbrev pub entry_of : ℕ → List ℕ → Found
entry_of p [] = Ok None
entry_of p (w ∷ ws) = cond (sort w == 3) (link_of p w ws) (cond (sort w == 14) (walk_of p (body w) ws) (word_of p w))

-- the head of a file of each kind
abbrev pub head_of : FileKind → ℕ
head_of Ticks = 0x1000_0000
head_of CyclePlaces = 0x1100_0000

-- the kind whose head is the word
abbrev pub headed_by : ℕ → Result FileKind FileFault
headed_by w = cond (w == head_of Ticks) (Ok Ticks) (cond (w == head_of CyclePlaces) (Ok CyclePlaces) (Err NoHead))

-- the kind of book that a file is worked on: cycle places if its first word says so
abbrev pub kind_of : List ℕ → FileKind
kind_of [] = Ticks
kind_of (w ∷ ws) = cond (w == head_of CyclePlaces) CyclePlaces Ticks

abbrev pub headed : FileKind → List ℕ → Found
headed kind [] = Err NoHead
headed kind (w ∷ ws) = cond (w == head_of kind) (entry_of 2 ws) (Err NoHead)

abbrev pub opening : FileKind → List ℕ → Found
opening kind bytes = cond (nat_lt 65536 (length bytes)) (Err Long) (cond (length bytes % 4 == 0) (headed kind (words_of bytes)) (Err Ragged))

-- what comes next, where some words are read and these bytes are left
abbrev pub upcoming : FileKind → ℕ → List ℕ → Found
upcoming kind read bytes = cond (read == 0) (opening kind bytes) (entry_of (read + 1) (words_of bytes))

abbrev pub width : Item → ℕ
width (size n) = 1
width (link i j m w) = 3
width (strike i j) = 1
width (offset i j) = 1
width all_offsets = 1
width realise = 1
width issue = 1
width recall = 1
width (walk ws) = 1 + length ws

-- how many words are read after an entry: its own, and the head before the first
abbrev pub taken : ℕ → Item → ℕ
taken read e = cond (read == 0) (1 + width e) (width e)

-- the number and the place of a fault of the file: the word at fault, from 1, or 0 for the file as a whole
abbrev pub file_number : FileFault → ℕ
file_number Long = 21
file_number Ragged = 20
file_number NoHead = 22
file_number (Stray p) = 23

abbrev pub file_place : FileFault → ℕ
file_place Long = 0
file_place Ragged = 0
file_place NoHead = 1
file_place (Stray p) = p
