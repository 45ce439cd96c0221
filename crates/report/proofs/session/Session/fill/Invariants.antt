use Rattle.std.proofs.Common.{ℕ, ◌≤◌, List, length, Option}
use Rattle.book.specs.Memory.{state_of, rows_of}
use Rattle.report.specs.Entries.{Item}
use Rattle.report.specs.Doing.{Outcome}
use Rattle.report.specs.Reading.{reading_of}
use Rattle.report.specs.History.{History}
use Rattle.report.specs.declared.file.FileFault.{FileFault}
use Rattle.report.specs.declared.file.FileKind.{FileKind}
use Rattle.report.proofs.Course.{Going, left}
use Rattle.report.proofs.session.Session.fill.Given as goal

abbrev pub invariant-loop-report : goal.invariant-loop-report
invariant-loop-report g l =
    (l.bytes ≤ length l.report)
    × ((kind : FileKind) (capacity : ℕ) (text : List ℕ) (h : List (Item × Outcome g.K.Kind.meaning.quantities.Q × ℕ)) (f : Option FileFault)
    → History g.K.Kind.meaning kind capacity (rows_of l.initial.totals l.initial.numbers l.initial.steps) text h f (reading_of l.initial.self.reader.at) (state_of g.K.Kind.meaning l.initial.self.book.now.store)
    → Going g.K.Kind.meaning kind capacity (rows_of l.initial.totals l.initial.numbers l.initial.steps) text h f (reading_of l.self.reader.at) (state_of g.K.Kind.meaning l.self.book.now.store) l.initial.report l.report l.bytes)

abbrev pub decreases-loop-report : goal.decreases-loop-report
decreases-loop-report g l = left (reading_of l.self.reader.at)
