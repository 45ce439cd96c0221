use Rattle.std.proofs.Common.{[], ◌∷◌, ◌++◌, length, arith}
use Rattle.search.specs.Records.{graph_of}
use Rattle.search.proofs.Wiring.{wired}
use Rattle.search.proofs.Ways.{more, joins, next_on, next_less, leads_on, fewer_yet, at_root}
use Rattle.search.proofs.path.climb.Goals as goal

pub far_end-x-requires : goal.far_end-x-requires
far_end-x-requires g c =
    let z = wired c.args.net.now.n (length c.args.net.now.links.now) c.args.net.now.links.now (omega arith) c.args.net.now.sound in
    let j = joins (graph_of c.args.net.now.links.now) (length c.args.net.now.links.now) c.args.net.now.n z c.args.up.now c.requires.forest c.loop-s.x c.loop-s.invariant.0 c.in-Some.s c.in-Some.ensures in
    record { low = j.0; high = omega (arith, j.1) }

pub bounds-steps-m : goal.bounds-steps-m
bounds-steps-m g c =
    let z = wired c.args.net.now.n (length c.args.net.now.links.now) c.args.net.now.links.now (omega arith) c.args.net.now.sound in
    let b = fewer_yet (graph_of c.args.net.now.links.now) (length c.args.net.now.links.now) c.args.net.now.n z c.args.up.now c.requires.forest c.loop-s.x c.loop-s.invariant.0 c.in-Some.s c.in-Some.ensures c.args.v c.loop-s.invariant.1.0 c.requires.inside c.loop-s.invariant.1.2 in
    omega (arith, b, c.requires.room, c.loop-s.invariant.1.1.count, c.loop-s.auto.steps)

pub loop-s-smaller : goal.loop-s-smaller
loop-s-smaller g c =
    let z = wired c.args.net.now.n (length c.args.net.now.links.now) c.args.net.now.links.now (omega arith) c.args.net.now.sound in
    next_less (graph_of c.args.net.now.links.now) (length c.args.net.now.links.now) c.args.net.now.n z c.args.up.now c.requires.forest c.loop-s.x c.loop-s.invariant.0 c.in-Some.s c.in-Some.ensures c.far_end-x.result c.far_end-x.ensures

pub loop-s-preserved : goal.loop-s-preserved
loop-s-preserved g c =
    let z = wired c.args.net.now.n (length c.args.net.now.links.now) c.args.net.now.links.now (omega arith) c.args.net.now.sound in
    let b = fewer_yet (graph_of c.args.net.now.links.now) (length c.args.net.now.links.now) c.args.net.now.n z c.args.up.now c.requires.forest c.loop-s.x c.loop-s.invariant.0 c.in-Some.s c.in-Some.ensures c.args.v c.loop-s.invariant.1.0 c.requires.inside c.loop-s.invariant.1.2 in (
      next_on (graph_of c.args.net.now.links.now) (length c.args.net.now.links.now) c.args.net.now.n z c.args.up.now c.requires.forest c.loop-s.x c.loop-s.invariant.0 c.in-Some.s c.in-Some.ensures c.far_end-x.result c.far_end-x.ensures,
      (
        c.loop-s.invariant.1.0 ++ (c.in-Some.s ∷ []),
        more c.args.steps.now c.loop-s.steps c.loop-s.m c.word.result c.loop-s.invariant.1.0 c.in-Some.s c.loop-s.invariant.1.1 (omega (arith, b, c.requires.room, c.loop-s.invariant.1.1.count, c.loop-s.auto.steps)) (c.word.ensures.word (let j = joins (graph_of c.args.net.now.links.now) (length c.args.net.now.links.now) c.args.net.now.n z c.args.up.now c.requires.forest c.loop-s.x c.loop-s.invariant.0 c.in-Some.s c.in-Some.ensures in omega (arith, j.1, c.args.net.now.few))),
        leads_on (graph_of c.args.net.now.links.now) (length c.args.net.now.links.now) c.args.net.now.n z c.args.up.now c.requires.forest c.loop-s.x c.loop-s.invariant.0 c.in-Some.s c.in-Some.ensures c.args.v c.loop-s.invariant.1.0 c.far_end-x.result c.far_end-x.ensures c.loop-s.invariant.1.2,
      ),
      omega (arith, b, c.loop-s.invariant.1.1.count),
    )

pub returns : goal.returns
returns g c = record { short = c.loop-s.invariant.2; climbed = (c.loop-s.invariant.1.0, c.loop-s.x, at_root (graph_of c.args.net.now.links.now) c.args.up.now c.args.v c.loop-s.x c.loop-s.invariant.1.0 c.loop-s.invariant.0.0 c.in_default.ensures c.loop-s.invariant.1.2, c.loop-s.invariant.1.1) }
