use Rattle.std.proofs.Common.{arith}
use Rattle.calls.specs.State.{WALK}
use Rattle.report.proofs.Deeds.{asks_walk, refuses, gives_two}
use Rattle.report.proofs.doing.do_walk.Goals as goal

pub returns-in_err-measured : goal.returns-in_err-measured
returns-in_err-measured g c m =
    let y = c.in_err-measured.ensures.call in
    refuses g.K.Kind.meaning _ _ _ m (WALK _) (asks_walk g.K.Kind.meaning _ _ _ c.fill-n.ensures.words) c.in_err-measured.field-0.0 c.from_residual.result c.from_residual.ensures.1 y.answer y.state

pub returns : goal.returns
returns g c m =
    let M = g.K.Kind.meaning in
    let y = c.in_ok-measured.ensures in
    gives_two M _ _ _ m (WALK _) (asks_walk M _ _ _ c.fill-n.ensures.words) _ _ y.call.answer y.call.state
    (M.wider 65536 16777216 _ (omega arith) y.reach.0, M.wider 65536 16777216 _ (omega arith) y.reach.1)
