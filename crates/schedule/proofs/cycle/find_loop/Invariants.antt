use Rattle.std.proofs.Common.{◌-◌, ◌≤◌}
use Rattle.search.specs.Records.{graph_of, On}
use Rattle.schedule.specs.Rows.{entry}
use Rattle.schedule.proofs.Marks.{Marked}
use Rattle.schedule.proofs.cycle.find_loop.Given as goal

abbrev pub invariant-loop-marks : goal.invariant-loop-marks
invariant-loop-marks g l = On l.net.n l.u × (l.t ≤ l.net.n) × Marked (graph_of l.net.links.now) l.net.n (entry l.preds) l.v l.marks l.t l.u

abbrev pub decreases-loop-marks : goal.decreases-loop-marks
decreases-loop-marks g l = l.net.n - l.t
