use Rattle.std.proofs.Common.{◌-◌, get_or, ap, ◌∙◌, arith}
use Rattle.network.specs.Graph.{place}
use Rattle.search.proofs.Gaps.{forward, backward}
use Rattle.search.proofs.offsets.before.Goals as goal

pub returns-in-Forward : goal.returns-in-Forward
returns-in-Forward g c =
    λ i w h.
    let q = ap place c.in-Forward.is in
    let r = c.with.ensures i w h in
    (r.0 ∙ forward g.K.Kind.meaning c.args.net.now.links.now c.in-Forward.p (get_or c.args.net.now.links.now (c.in-Forward.p - 1) c.index-net-p.result) (omega (arith, c.requires.low, q)) (omega (arith, c.requires.high, q)) (ap (get_or c.args.net.now.links.now (c.in-Forward.p - 1)) c.index-net-p.is) (g.K.Kind.meaning.total c.args.t.now) c.args.s c.in-Forward.is, r.1)

pub returns-in-Backward : goal.returns-in-Backward
returns-in-Backward g c =
    λ i w h.
    let q = ap place c.in-Backward.is in
    let r = c.with-in-Backward.ensures i w h in
    (r.0 ∙ backward g.K.Kind.meaning c.args.net.now.links.now c.in-Backward.p (get_or c.args.net.now.links.now (c.in-Backward.p - 1) c.index-net-p-in-Backward.result) (omega (arith, c.requires.low, q)) (omega (arith, c.requires.high, q)) (ap (get_or c.args.net.now.links.now (c.in-Backward.p - 1)) c.index-net-p-in-Backward.is) (g.K.Kind.meaning.total c.args.t.now) c.args.s c.in-Backward.is, r.1)
