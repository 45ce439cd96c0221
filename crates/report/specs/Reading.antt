-- Where a reader stands in its file.
use Rattle.std.specs.Prelude.{ℕ, ◌+◌, ◌*◌, Bool, true, false, cond, List, drop, None, Ok, ◌==◌}
use Rattle.report.specs.Entries.{Item, Found, upcoming, taken}
use Rattle.report.specs.declared.file.FileKind.{FileKind}
use Rattle.report.specs.declared.file.Place.{Place}

-- the kind that the head has to name, the bytes left, how many words are read, and whether a fault has ended it
pub record Reading : Type 0 where
  pub kind : FileKind
  pub bytes : List ℕ
  pub read : ℕ
  pub ended : Bool

abbrev pub reading_of : Place → Reading
reading_of p = record { kind = p.kind; bytes = p.rest.now; read = p.read; ended = p.ended }

-- a file that is not yet read
abbrev pub unread : FileKind → List ℕ → Reading
unread kind file = record { kind = kind; bytes = file; read = 0; ended = false }

abbrev pub ahead : Reading → Found
ahead r = cond r.ended (Ok None) (upcoming r.kind r.read r.bytes)

-- the number of the next call's first word, from 1: the head is word 1
abbrev pub first_word : Reading → ℕ
first_word r = cond (r.read == 0) 2 (r.read + 1)

-- after an entry, and after a fault
abbrev pub past : Reading → Item → Reading
past r e = record { kind = r.kind; bytes = drop (4 * taken r.read e) r.bytes; read = r.read + taken r.read e; ended = r.ended }

abbrev pub shut : Reading → Reading
shut r = record { kind = r.kind; bytes = r.bytes; read = r.read; ended = true }
