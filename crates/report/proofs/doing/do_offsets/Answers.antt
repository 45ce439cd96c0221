use Rattle.std.proofs.Common.{arith}
use Rattle.report.specs.Doing.{for_offsets}
use Rattle.report.proofs.Deeds.{asked_all, declined, offsets_room, whole_near}
use Rattle.report.proofs.doing.do_offsets.Goals as goal

pub returns-in_err-offsets : goal.returns-in_err-offsets
returns-in_err-offsets g c =
    let y = c.in_err-offsets.ensures in
    declined g.K.Kind.meaning _ _ (λ o x. x) _ _ _ _ _ _ _ for_offsets c.in_err-offsets.field-0.0 c.from_residual.result c.from_residual.ensures.1 y.rows y.call.answer y.call.state

pub returns : goal.returns
returns g c =
    let M = g.K.Kind.meaning in
    let y = c.in_ok-offsets.ensures in
    let room = offsets_room M _ _ _ y.call.answer in
    asked_all M _ _ (λ o x. x) _ _ _ _ _ _ _ for_offsets c.switches.result c.switches.ensures c.args.book.now.held.3 y.rows (omega (arith, room, c.offsets.auto.totals)) (whole_near M _ _ y.reach) y.call.answer y.call.state
