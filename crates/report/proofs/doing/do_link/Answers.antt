use Rattle.std.proofs.Common.{Ok, Err, rules}
use Rattle.report.specs.Doing.{for_link}
use Rattle.report.proofs.Deeds.{as_passed, no_latency, linked, turned}
use Rattle.report.proofs.doing.do_link.Goals as goal

pub returns-in_err-measured : goal.returns-in_err-measured
returns-in_err-measured g c =
    let z = as_passed g.K.Kind.meaning c.args.asked.measured c.args.asked.wanted (Err c.in_err-measured.field-0.0) (search rules) (search rules) c.in_err-measured.ensures in
    no_latency g.K.Kind.meaning _ _ _ _ _ _ c.in_err-measured.field-0.0 c.from_residual.result c.from_residual.ensures.1 z

pub returns-in_err-link : goal.returns-in_err-link
returns-in_err-link g c =
    let y = c.in_err-link.ensures in
    let z = as_passed g.K.Kind.meaning c.args.asked.measured c.args.asked.wanted (Ok (c.in_ok-measured.measured, c.in_ok-measured.wanted)) (search rules) (search rules) c.in_ok-measured.ensures in
    turned g.K.Kind.meaning _ _ (λ o x. x) _ _ _ _ c.args.book.now.held.3 (for_link _ _ _ _ _ _ z.0 z.1) c.in_err-link.field-0.0 c.from_residual-in_err-link.result c.from_residual-in_err-link.ensures.1
    y.rows y.call.answer y.call.state

pub returns : goal.returns
returns g c =
    let y = c.in_ok-link.ensures in
    let z = as_passed g.K.Kind.meaning c.args.asked.measured c.args.asked.wanted (Ok (c.in_ok-measured.measured, c.in_ok-measured.wanted)) (search rules) (search rules) c.in_ok-measured.ensures in
    linked g.K.Kind.meaning _ _ (λ o x. x) _ _ _ _ c.args.book.now.held.3 (for_link _ _ _ _ _ _ z.0 z.1) y.rows y.call.answer y.call.state
