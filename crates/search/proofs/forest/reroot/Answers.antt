use Rattle.std.proofs.Common.{refl, ◌∙◌, arith}
use Rattle.network.specs.Graph.{Upto}
use Rattle.network.proofs.Graph.{same}
use Rattle.network.proofs.Turning.{begin}
use Rattle.search.specs.Parents.{parents}
use Rattle.search.specs.Records.{graph_of}
use Rattle.search.proofs.Wiring.{wired}
use Rattle.search.proofs.Climbs.{joining_here, low_turned, row_again, row_near, row_others, row_fewer, row_done}
use Rattle.search.proofs.forest.reroot.Goals as goal

pub loop-s-init : goal.loop-s-init
loop-s-init g c = (begin (graph_of c.args.net.now.links.now) c.args.count (parents c.args.up.now) c.args.i c.requires.forest, c.requires.inside, same (graph_of c.args.net.now.links.now) (Upto c.args.count) c.args.i c.args.i refl, λ v d. refl)

pub far_end-x-requires : goal.far_end-x-requires
far_end-x-requires g c =
    let z = wired c.args.net.now.n c.args.count c.args.net.now.links.now c.requires.count c.args.net.now.sound in
    let j = joining_here (graph_of c.args.net.now.links.now) c.args.count c.args.net.now.n z (omega (arith, c.requires.count, c.args.net.now.few)) c.args.i c.loop-s.up (c.loop-s.auto.up ∙ c.requires.size) c.loop-s.x c.loop-s.hang c.loop-s.invariant.0 c.loop-s.invariant.1 c.in-Some.s c.in-Some.ensures in
    record { low = j.0; high = omega (arith, j.1, c.requires.count) }

pub loop-s-smaller : goal.loop-s-smaller
loop-s-smaller g c =
    let z = wired c.args.net.now.n c.args.count c.args.net.now.links.now c.requires.count c.args.net.now.sound in
    row_fewer (graph_of c.args.net.now.links.now) c.args.count c.args.net.now.n z (omega (arith, c.requires.count, c.args.net.now.few)) c.args.i c.loop-s.up (c.loop-s.auto.up ∙ c.requires.size) c.loop-s.x c.loop-s.hang c.loop-s.invariant.0 c.loop-s.invariant.1 c.in-Some.s c.far_end-x.result c.in-Some.ensures c.far_end-x.ensures

pub loop-s-preserved : goal.loop-s-preserved
loop-s-preserved g c =
    let z = wired c.args.net.now.n c.args.count c.args.net.now.links.now c.requires.count c.args.net.now.sound in
    let a = row_again (graph_of c.args.net.now.links.now) c.args.count c.args.net.now.n z (omega (arith, c.requires.count, c.args.net.now.few)) c.args.i c.loop-s.up (c.loop-s.auto.up ∙ c.requires.size) c.loop-s.x c.loop-s.hang c.loop-s.invariant.0 c.loop-s.invariant.1 c.in-Some.s c.reversed.result c.word-hang.result c.far_end-x.result c.in-Some.ensures c.reversed.ensures (c.word-hang.ensures.back (omega (arith, low_turned (graph_of c.args.net.now.links.now) c.args.count c.args.net.now.n z (omega (arith, c.requires.count, c.args.net.now.few)) c.args.i c.loop-s.up (c.loop-s.auto.up ∙ c.requires.size) c.loop-s.x c.loop-s.hang c.loop-s.invariant.0 c.loop-s.invariant.1 c.in-Some.s c.reversed.result c.in-Some.ensures c.reversed.ensures))) c.far_end-x.ensures in (
      a.0,
      a.1,
      row_near (graph_of c.args.net.now.links.now) c.args.count c.args.net.now.n z (omega (arith, c.requires.count, c.args.net.now.few)) c.args.i c.loop-s.up (c.loop-s.auto.up ∙ c.requires.size) c.loop-s.x c.loop-s.hang c.loop-s.invariant.0 c.loop-s.invariant.1 c.loop-s.invariant.2 c.in-Some.s c.far_end-x.result c.in-Some.ensures c.far_end-x.ensures,
      λ u d. row_others (graph_of c.args.net.now.links.now) c.args.count c.args.net.now.n z (omega (arith, c.requires.count, c.args.net.now.few)) c.args.i c.loop-s.up (c.loop-s.auto.up ∙ c.requires.size) c.loop-s.x c.loop-s.hang c.loop-s.invariant.0 c.loop-s.invariant.1 c.loop-s.invariant.2 u d ∙ c.loop-s.invariant.3 u d,
    )

pub returns : goal.returns
returns g c =
    let z = wired c.args.net.now.n c.args.count c.args.net.now.links.now c.requires.count c.args.net.now.sound in
    let r = row_done (graph_of c.args.net.now.links.now) c.args.count c.args.net.now.n z (omega (arith, c.requires.count, c.args.net.now.few)) c.args.i c.loop-s.up (c.loop-s.auto.up ∙ c.requires.size) c.loop-s.x c.loop-s.hang c.loop-s.invariant.0 c.loop-s.invariant.1 c.in_default.ensures in
    record { still = r.0; root = r.1; others = λ u d. row_others (graph_of c.args.net.now.links.now) c.args.count c.args.net.now.n z (omega (arith, c.requires.count, c.args.net.now.few)) c.args.i c.loop-s.up (c.loop-s.auto.up ∙ c.requires.size) c.loop-s.x c.loop-s.hang c.loop-s.invariant.0 c.loop-s.invariant.1 c.loop-s.invariant.2 u d ∙ c.loop-s.invariant.3 u d }
