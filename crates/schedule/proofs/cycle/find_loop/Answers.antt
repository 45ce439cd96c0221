use Rattle.std.proofs.Common.{◌-◌, ◌<◌, length, arith}
use Rattle.search.specs.Records.{graph_of}
use Rattle.search.proofs.Wiring.{wired}
use Rattle.schedule.specs.Rows.{entry}
use Rattle.schedule.proofs.Marks.{room, there, mark, on, circle}
use Rattle.schedule.proofs.cycle.find_loop.Goals as goal

pub sender-u-requires : goal.sender-u-requires
sender-u-requires g c =
    let z = wired c.args.net.now.n (length c.args.net.now.links.now) c.args.net.now.links.now (omega arith) c.args.net.now.sound in
    let q = there (graph_of c.args.net.now.links.now) (length c.args.net.now.links.now) c.args.net.now.n z (entry c.args.preds.now) c.args.v c.requires.inside c.requires.traced c.loop-marks.marks c.loop-marks.t c.loop-marks.u c.loop-marks.invariant.2 c.loop-marks-test.true in
    record { low = q.0; high = q.1 }

pub loop-marks-smaller : goal.loop-marks-smaller
loop-marks-smaller g c =
    let z = wired c.args.net.now.n (length c.args.net.now.links.now) c.args.net.now.links.now (omega arith) c.args.net.now.sound in
    let r = room (graph_of c.args.net.now.links.now) (length c.args.net.now.links.now) c.args.net.now.n z (entry c.args.preds.now) c.args.v c.requires.inside c.requires.traced c.loop-marks.marks c.loop-marks.t c.loop-marks.u c.loop-marks.invariant.2 c.loop-marks-test.true in
    omega arith

pub loop-marks-preserved : goal.loop-marks-preserved
loop-marks-preserved g c =
    let z = wired c.args.net.now.n (length c.args.net.now.links.now) c.args.net.now.links.now (omega arith) c.args.net.now.sound in
    let l : c.loop-marks.u - 1 < length c.loop-marks.marks = omega (arith, c.loop-marks.invariant.0, c.requires.sizes.1, c.loop-marks.auto.marks) in
    let h = mark (graph_of c.args.net.now.links.now) (length c.args.net.now.links.now) c.args.net.now.n z (entry c.args.preds.now) c.args.v c.requires.inside c.requires.traced c.loop-marks.marks c.loop-marks.t c.loop-marks.u c.loop-marks.invariant.2 c.loop-marks-test.true l c.sender-u.result c.sender-u.ensures in
    (on (graph_of c.args.net.now.links.now) (length c.args.net.now.links.now) c.args.net.now.n z (entry c.args.preds.now) c.args.v c.requires.inside c.requires.traced _ _ _ h, h.low, h)

pub returns : goal.returns
returns g c =
    let z = wired c.args.net.now.n (length c.args.net.now.links.now) c.args.net.now.links.now (omega arith) c.args.net.now.sound in
    (c.loop-marks.invariant.0, circle (graph_of c.args.net.now.links.now) (length c.args.net.now.links.now) c.args.net.now.n z (entry c.args.preds.now) c.args.v c.requires.inside c.requires.traced c.loop-marks.marks c.loop-marks.t c.loop-marks.u c.loop-marks.invariant.2 c.loop-marks-test.false)
