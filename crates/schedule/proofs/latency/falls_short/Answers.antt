use Rattle.std.proofs.Common.{◌+◌, ap, ◌∙◌, arith}
use Rattle.schedule.proofs.latency.falls_short.Goals as goal

pub returns : goal.returns
returns g c =
    λ i j f t h.
    let K = g.K.Kind.meaning.quantities in
    let a = c.of.ensures in
    let x = c.sum-ahead.ensures 1 j a.1 t (omega arith) in
    let m = c.negated.ensures i f (omega arith) in
    let s = c.sum.ensures (1 + j) i x.1 m.1 h in
    let y = g.K.Kind.meaning.total c.args.to.now in
    c.is_below.ensures (g.K.Kind.meaning.wider (1 + j + i) 16777216 c.sum.result h s.1) ∙ ap g.K.Kind.meaning.below (s.0 ∙ ap (K.plus (g.K.Kind.meaning.total c.sum-ahead.result)) m.0 ∙ ap (λ z. K.plus z (K.minus (g.K.Kind.meaning.total c.args.from.now))) (x.0 ∙ ap (λ z. K.plus z y) a.0))
