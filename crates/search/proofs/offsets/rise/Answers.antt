use Rattle.std.proofs.Common.{◌≡◌, ◌+◌, ◌<◌, ◌≤◌, [], ◌∷◌, ◌++◌, length, sym, ap, ◌∙◌, arith, length-append, length-set}
use Rattle.search.specs.Parents.{parents}
use Rattle.search.specs.Records.{graph_of}
use Rattle.search.proofs.Wiring.{wired}
use Rattle.search.proofs.Ways.{joins, next_on, next_less, leads_on, fewer_yet}
use Rattle.search.proofs.Stacking.{chain_more, new_top, same_first}
use Rattle.search.proofs.offsets.rise.Goals as goal

pub far_end-x-requires : goal.far_end-x-requires
far_end-x-requires g c =
    let z = wired c.args.net.now.n (length c.args.net.now.links.now) c.args.net.now.links.now (omega arith) c.args.net.now.sound in
    let j = joins (graph_of c.args.net.now.links.now) (length c.args.net.now.links.now) c.args.net.now.n z c.args.up.now c.requires.forest c.loop-x.x c.loop-x.invariant.0 c.in-Some.s c.in-Some.ensures in
    record { low = j.0; high = omega (arith, j.1) }

pub bounds-stack-top : goal.bounds-stack-top
bounds-stack-top g c =
    let z = wired c.args.net.now.n (length c.args.net.now.links.now) c.args.net.now.links.now (omega arith) c.args.net.now.sound in
    let b = fewer_yet (graph_of c.args.net.now.links.now) (length c.args.net.now.links.now) c.args.net.now.n z c.args.up.now c.requires.forest c.loop-x.x c.loop-x.invariant.0 c.in-Some.s c.in-Some.ensures c.args.v c.loop-x.invariant.4.0 c.requires.v c.loop-x.invariant.4.2 in
    let h : c.args.net.now.n ≤ length c.args.stack.now = c.requires.sizes.1 in
    let k : length c.loop-x.stack ≡ length c.args.stack.now = c.loop-x.auto.stack ∙ length-set c.args.stack.now 0 c.args.v in
    omega (arith, b, c.loop-x.invariant.4.1)

pub loop-x-smaller : goal.loop-x-smaller
loop-x-smaller g c =
    let z = wired c.args.net.now.n (length c.args.net.now.links.now) c.args.net.now.links.now (omega arith) c.args.net.now.sound in
    next_less (graph_of c.args.net.now.links.now) (length c.args.net.now.links.now) c.args.net.now.n z c.args.up.now c.requires.forest c.loop-x.x c.loop-x.invariant.0 c.in-Some.s c.in-Some.ensures c.far_end-x.result c.far_end-x.ensures

pub loop-x-preserved : goal.loop-x-preserved
loop-x-preserved g c =
    let z = wired c.args.net.now.n (length c.args.net.now.links.now) c.args.net.now.links.now (omega arith) c.args.net.now.sound in
    let b = fewer_yet (graph_of c.args.net.now.links.now) (length c.args.net.now.links.now) c.args.net.now.n z c.args.up.now c.requires.forest c.loop-x.x c.loop-x.invariant.0 c.in-Some.s c.in-Some.ensures c.args.v c.loop-x.invariant.4.0 c.requires.v c.loop-x.invariant.4.2 in
    let h : c.args.net.now.n ≤ length c.args.stack.now = c.requires.sizes.1 in
    let k : length c.loop-x.stack ≡ length c.args.stack.now = c.loop-x.auto.stack ∙ length-set c.args.stack.now 0 c.args.v in
    let l : c.loop-x.top + 1 < length c.loop-x.stack = omega (arith, b, c.loop-x.invariant.4.1) in
    let o = next_on (graph_of c.args.net.now.links.now) (length c.args.net.now.links.now) c.args.net.now.n z c.args.up.now c.requires.forest c.loop-x.x c.loop-x.invariant.0 c.in-Some.s c.in-Some.ensures c.far_end-x.result c.far_end-x.ensures in (
      o,
      chain_more (graph_of c.args.net.now.links.now) c.args.net.now.n c.args.up.now c.loop-x.stack c.loop-x.top c.loop-x.invariant.1 c.far_end-x.result l o c.in-Some.s (ap (parents c.args.up.now) c.loop-x.invariant.2 ∙ sym c.in-Some.ensures) c.far_end-x.ensures,
      new_top (graph_of c.args.net.now.links.now) c.args.net.now.n c.args.up.now c.loop-x.stack c.loop-x.top c.loop-x.invariant.1 c.far_end-x.result l,
      same_first (graph_of c.args.net.now.links.now) c.args.net.now.n c.args.up.now c.loop-x.stack c.loop-x.top c.loop-x.invariant.1 c.far_end-x.result l c.args.v c.loop-x.invariant.3,
      (
        c.loop-x.invariant.4.0 ++ (c.in-Some.s ∷ []),
        length-append c.loop-x.invariant.4.0 (c.in-Some.s ∷ []) ∙ omega (arith, c.loop-x.invariant.4.1),
        leads_on (graph_of c.args.net.now.links.now) (length c.args.net.now.links.now) c.args.net.now.n z c.args.up.now c.requires.forest c.loop-x.x c.loop-x.invariant.0 c.in-Some.s c.in-Some.ensures c.args.v c.loop-x.invariant.4.0 c.far_end-x.result c.far_end-x.ensures c.loop-x.invariant.4.2,
      ),
      omega (arith, b, c.loop-x.invariant.4.1),
    )
