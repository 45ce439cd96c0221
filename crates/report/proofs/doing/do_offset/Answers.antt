use Rattle.std.proofs.Common.{◌-◌, ◌*◌, arith}
use Rattle.report.specs.Doing.{for_offset}
use Rattle.report.proofs.Deeds.{asked_one, declined}
use Rattle.report.proofs.doing.do_offset.Goals as goal

pub returns-in_err-t : goal.returns-in_err-t
returns-in_err-t g c =
    let y = c.in_err-t.ensures in
    declined g.K.Kind.meaning _ _ (λ o x. x) _ _ _ _ _ _ _ (for_offset _ _) c.in_err-t.field-0.0 c.from_residual.result c.from_residual.ensures.1 y.rows y.call.answer y.call.state

pub returns : goal.returns
returns g c =
    let M = g.K.Kind.meaning in
    let y = c.in_ok-t.ensures in
    asked_one M _ _ (λ o x. x) _ _ _ _ _ _ _ (for_offset _ _) c.in_ok-t.t y.rows (M.wider (2 * (c.args.book.now.store.n - 1)) 16777216 _ (omega (arith, c.args.book.now.held.3)) y.reach) y.call.answer y.call.state
