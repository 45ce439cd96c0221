use Rattle.std.proofs.Common.{◌≡◌}
use Rattle.schedule.proofs.Hearing.{Hearing}
use Rattle.schedule.proofs.round.round.Given as goal

abbrev pub invariant-loop-i : goal.invariant-loop-i
invariant-loop-i g l = (l.rows.n ≡ l.net.n) × Hearing g.K.Kind.meaning l.net.links.now l.net.n l.k l.fn.rows.stamps.now l.fn.rows.preds.now l.i l.row l.rows.stamps.now l.rows.preds.now l.raised
