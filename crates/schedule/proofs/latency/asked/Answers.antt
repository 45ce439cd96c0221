use Rattle.std.proofs.Common.{ap, ◌∙◌, arith}
use Rattle.network.proofs.Sums.{inv2}
use Rattle.schedule.proofs.latency.asked.Goals as goal

pub returns : goal.returns
returns g c =
    λ i w h.
    let K = g.K.Kind.meaning.quantities in
    let m = g.K.Kind.meaning.latency c.args.measured.now in
    let a = c.of.ensures in
    let b = c.negated.ensures 1 a.1 (omega arith) in
    let s = c.sum.ensures i 1 w b.1 h in
    (ap (K.plus m) (s.0 ∙ ap (K.plus (g.K.Kind.meaning.total c.args.from.now)) (b.0 ∙ ap K.minus a.0)) ∙ inv2 K m (g.K.Kind.meaning.total c.args.from.now), s.1)
