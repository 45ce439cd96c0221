use Rattle.std.proofs.Common.{◌≤◌, true, false, length, arith}
use Rattle.schedule.proofs.Hearing.{opens, hears, ends, outcome}
use Rattle.schedule.proofs.round.round.Goals as goal
use Rattle.schedule.proofs.round.round.Goals.{then-hear, else-hear}

pub loop-i-init : goal.loop-i-init
loop-i-init g c =
    let M = g.K.Kind.meaning in
    (c.requires.size, opens M c.args.net.now.links.now c.args.net.now.n c.args.k c.args.rows.now.stamps.now c.args.rows.now.preds.now (M.order c.requires.ordered) c.args.net.now.sound c.args.row.now c.keep.new.row c.requires.after c.keep.ensures.front c.keep.ensures.behind c.requires.near)

pub loop-i-preserved : goal.loop-i-preserved
loop-i-preserved g c =
    let M = g.K.Kind.meaning in
    let z = c.loop-i.rows.sizes in
    let size : c.args.net.now.n ≤ length c.loop-i.row = omega (arith, c.requires.totals, c.keep.auto.row, c.loop-i.auto.row) in
    let stamps : c.args.net.now.n ≤ length c.loop-i.rows.stamps.now = omega (arith, z.0, c.loop-i.invariant.0) in
    let preds : c.args.net.now.n ≤ length c.loop-i.rows.preds.now = omega (arith, z.1, c.loop-i.invariant.0) in
    let next = hears M c.args.net.now.links.now c.args.net.now.n c.args.k c.args.rows.now.stamps.now c.args.rows.now.preds.now (M.order c.requires.ordered) c.args.net.now.sound c.loop-i.i c.loop-i.row c.loop-i.rows.stamps.now c.loop-i.rows.preds.now c.loop-i.raised c.loop-i.invariant.1 c.link-item.result c.loop-i-test.true c.link-item.is size (stamps, preds) c.hear.new.row c.hear.new.rows.stamps.now c.hear.new.rows.preds.now c.hear.result in (
      c.hear.ensures.size,
      elim c.if-hear.branch [
        | then-hear w ↦ next true c.if-hear.raised c.hear.ensures.heard w.if-hear.true w.raised-is
        | else-hear w ↦ next false c.if-hear.raised c.hear.ensures.heard w.if-hear.false w.raised-is
      ],
    )

pub returns : goal.returns
returns g c =
    let M = g.K.Kind.meaning in
    let all : length c.args.net.now.links.now ≤ c.loop-i.i = omega arith in
    record {
      size = c.loop-i.invariant.0;
      near = c.loop-i.invariant.1.near;
      after = ends M c.args.net.now.links.now c.args.net.now.n c.args.k c.args.rows.now.stamps.now c.args.rows.now.preds.now (M.order c.requires.ordered) c.args.net.now.sound c.loop-i.i all c.loop-i.row c.loop-i.rows.stamps.now c.loop-i.rows.preds.now c.loop-i.raised c.loop-i.invariant.1;
      raised = outcome M c.args.net.now.links.now c.args.net.now.n c.args.k c.args.rows.now.stamps.now c.args.rows.now.preds.now (M.order c.requires.ordered) c.args.net.now.sound c.loop-i.i all c.loop-i.row c.loop-i.rows.stamps.now c.loop-i.rows.preds.now c.loop-i.raised c.loop-i.invariant.1;
    }
