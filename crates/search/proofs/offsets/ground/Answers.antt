use Rattle.std.proofs.Common.{◌-◌, ◌<◌, ◌≤◌, length, arith}
use Rattle.search.proofs.Settling.{grounded, marked, mark_keeps}
use Rattle.search.proofs.offsets.ground.Goals as goal

pub returns : goal.returns
returns g c =
    let b : c.args.net.now.n ≤ length c.args.marks.now = c.requires.sizes.0 in
    let l : c.args.w - 1 < length c.args.marks.now = omega (arith, c.requires.w.0, c.requires.w.1) in
    record {
      settled = (grounded g.K.Kind.meaning c.args.net.now.links.now c.args.net.now.n c.args.up.now c.args.marks.now c.args.row.now c.requires.sizes c.requires.settled c.args.w c.requires.w (c.requires.root c.if-marks-w-ne0.false) c.zero.result c.zero.ensures.0 c.zero.ensures.1);
      kept = mark_keeps c.args.marks.now (c.args.w - 1) l;
      done = marked c.args.marks.now (c.args.w - 1) l;
    }
