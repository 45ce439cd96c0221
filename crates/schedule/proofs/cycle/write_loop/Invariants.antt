use Rattle.std.proofs.Common.{◌-◌}
use Rattle.search.specs.Records.{graph_of, On}
use Rattle.schedule.specs.Rows.{entry}
use Rattle.schedule.proofs.Marks.{Writing}
use Rattle.schedule.proofs.cycle.write_loop.Given as goal

abbrev pub invariant-loop-t : goal.invariant-loop-t
invariant-loop-t g l = On l.net.n l.x × Writing (graph_of l.net.links.now) (entry l.preds) l.u l.m l.initial.steps l.steps (l.m - l.t) l.x
