use Rattle.std.proofs.Common.{◌≡◌, ◌+◌, ◌*◌, take}
use Rattle.report.specs.Appending.{Appended}
use Rattle.report.specs.Lines.{hexes}
use Rattle.report.proofs.writer.RowWriter.steps.Given as goal

abbrev pub invariant-loop-w : goal.invariant-loop-w
invariant-loop-w l = record { bound : l.self.len ≡ l.initial.self.len + 9 * l.w-index; wrote : Appended l.initial.self (hexes (take l.w-index l.steps)) l.self }
