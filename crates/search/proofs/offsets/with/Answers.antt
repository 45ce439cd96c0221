use Rattle.std.proofs.Common.{ap, ◌∙◌, arith}
use Rattle.search.proofs.offsets.with.Goals as goal

pub returns : goal.returns
returns g c =
    λ i w h.
    let a = c.of.ensures in
    let b = c.of-2.ensures in
    let m = c.negated.ensures 1 b.1 (omega arith) in
    let s = c.sum.ensures 1 1 a.1 m.1 (omega arith) in
    let r = c.sum-2.ensures i 2 w s.1 h in
    (r.0 ∙ ap (g.K.Kind.meaning.quantities.plus (g.K.Kind.meaning.total c.args.t.now)) (s.0 ∙ ap (g.K.Kind.meaning.quantities.plus (g.K.Kind.meaning.total c.of.result)) (m.0 ∙ ap g.K.Kind.meaning.quantities.minus b.0) ∙ ap (λ x. g.K.Kind.meaning.quantities.plus x (g.K.Kind.meaning.quantities.minus (g.K.Kind.meaning.latency c.args.less.now))) a.0), r.1)
