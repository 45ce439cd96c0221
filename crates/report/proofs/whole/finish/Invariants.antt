use Rattle.std.proofs.Common.{ℕ, List, [], None}
use Rattle.book.specs.Memory.{state_of, rows_of}
use Rattle.report.specs.Appending.{SameRow}
use Rattle.report.specs.Reading.{reading_of}
use Rattle.report.specs.History.{History}
use Rattle.report.specs.declared.file.FileKind.{FileKind}
use Rattle.report.proofs.Course.{Going, left}
use Rattle.report.proofs.whole.finish.Given as goal

abbrev pub invariant-loop-l : goal.invariant-loop-l
invariant-loop-l g l = record {
  same : SameRow l.initial.written l.written;
  going : (kind : FileKind) (capacity : ℕ) (text : List ℕ)
      → History g.K.Kind.meaning kind capacity (rows_of l.initial.totals l.initial.numbers l.initial.steps) text [] None (reading_of l.initial.session.reader.at) (state_of g.K.Kind.meaning l.initial.session.book.now.store)
      → Going g.K.Kind.meaning kind capacity (rows_of l.initial.totals l.initial.numbers l.initial.steps) text [] None (reading_of l.session.reader.at) (state_of g.K.Kind.meaning l.session.book.now.store) l.fn.report l.written.row.now l.written.len;
}

abbrev pub decreases-loop-l : goal.decreases-loop-l
decreases-loop-l g l = left (reading_of l.session.reader.at)
