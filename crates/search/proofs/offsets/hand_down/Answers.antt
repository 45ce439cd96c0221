use Rattle.std.proofs.Common.{◌-◌, ◌<◌, ◌≤◌, length, arith}
use Rattle.search.proofs.Wiring.{wired}
use Rattle.search.proofs.Settling.{handed, marked, mark_keeps}
use Rattle.search.proofs.offsets.hand_down.Goals as goal

pub returns : goal.returns
returns g c =
    let z = wired c.args.net.now.n (length c.args.net.now.links.now) c.args.net.now.links.now (omega arith) c.args.net.now.sound in
    let b : c.args.net.now.n ≤ length c.args.marks.now = c.requires.sizes.0 in
    let l : c.args.w - 1 < length c.args.marks.now = omega (arith, c.requires.w.0, c.requires.w.1) in
    record {
      settled = (handed g.K.Kind.meaning c.args.net.now.links.now c.args.net.now.n c.args.up.now c.args.marks.now c.args.row.now c.requires.sizes c.requires.settled (length c.args.net.now.links.now) c.args.net.now.small z c.requires.forest c.args.w c.args.y c.requires.w c.requires.y c.in-Some.s c.requires.above c.in-Some.ensures c.requires.known c.index-row-y.result c.before-t.result c.before-t.ensures);
      kept = mark_keeps c.args.marks.now (c.args.w - 1) l;
      done = marked c.args.marks.now (c.args.w - 1) l;
    }
