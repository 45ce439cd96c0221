use Rattle.std.proofs.Common.{ap, ◌∙◌}
use Rattle.book.specs.Memory.{state_of}
use Rattle.report.proofs.Course.{opens}
use Rattle.report.proofs.whole.run.Goals as goal

pub returns : goal.returns
returns g c =
    let M = g.K.Kind.meaning in
    let x = c.open-session.ensures in
    let y = c.new-book.ensures in
    c.finish.ensures _ _ _ (opens M c.args.kind _ _ _ _ _ x.reading (ap (λ b. state_of M b.store) x.book ∙ y.state))
