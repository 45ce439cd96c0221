use Rattle.std.proofs.Common.{refl, arith}
use Rattle.report.specs.Doing.{for_realise}
use Rattle.report.proofs.Deeds.{scheduled, turned}
use Rattle.report.proofs.doing.do_realise.Goals as goal

pub returns-in_err-realise : goal.returns-in_err-realise
returns-in_err-realise g c =
    let y = c.in_err-realise.ensures in
    turned g.K.Kind.meaning _ _ (λ o x. x) _ _ _ _ c.args.book.now.held.3 for_realise c.in_err-realise.field-0.0 c.from_residual.result c.from_residual.ensures.1 y.rows y.call.answer y.call.state

pub returns : goal.returns
returns g c =
    let M = g.K.Kind.meaning in
    let y = c.in_ok-realise.ensures in
    let room = (y.verdict.some_only _ refl).0.enough.0 in
    scheduled M _ _ (λ o x. x) _ _ _ _ c.args.book.now.held.3 for_realise c.switches.result c.switches.ensures y.rows (omega (arith, room, c.realise.auto.totals)) y.reach y.call.answer y.call.state
