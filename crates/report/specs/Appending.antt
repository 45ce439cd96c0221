-- Bytes that a writer puts after those that it has put.
use Rattle.std.specs.Prelude.{◌≡◌, ℕ, ◌+◌, ◌≤◌, List, length}
use Rattle.text.specs.Writing.{Wrote}
use Rattle.report.specs.declared.writer.RowWriter.{RowWriter}

-- so many bytes more fit the writer's row
abbrev pub HasRoom : RowWriter → ℕ → Type 0
HasRoom w n = w.len + n ≤ length w.row.now

-- w' puts into the row of w
pub record SameRow (w w' : RowWriter) : Type 0 where
  pub name : w'.row.ghost_name ≡ w.row.ghost_name
  pub length : length w'.row.now ≡ length w.row.now

-- w' has put the bytes bs after those of w
pub record Appended (w : RowWriter) (bs : List ℕ) (w' : RowWriter) : Type 0 where
  pub same : SameRow w w'
  pub wrote : Wrote w.row.now w.len bs w'.row.now w'.len
