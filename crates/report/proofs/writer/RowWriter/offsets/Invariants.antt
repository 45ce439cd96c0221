use Rattle.std.proofs.Common.{ℕ, ◌+◌, ◌*◌, ◌≤◌}
use Rattle.report.specs.Appending.{SameRow, Appended}
use Rattle.report.specs.Lines.{listed, Holds}
use Rattle.report.proofs.writer.RowWriter.offsets.Given as goal

abbrev pub invariant-loop-t : goal.invariant-loop-t
invariant-loop-t g l = record {
  same : SameRow l.initial.self l.self;
  bound : l.self.len ≤ l.initial.self.len + 29 * l.t-index;
  wrote : (c : ℕ → g.K.Kind.meaning.quantities.Q) → Holds g.K.Kind.meaning c l.totals → Appended l.initial.self (listed g.K.Kind.meaning c l.t-index) l.self;
}
