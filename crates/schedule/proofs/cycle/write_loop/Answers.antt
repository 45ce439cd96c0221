use Rattle.std.proofs.Common.{◌≡◌, ◌+◌, ◌-◌, length, set, subst₂, arith}
use Rattle.search.specs.Records.{graph_of}
use Rattle.search.proofs.Wiring.{wired}
use Rattle.schedule.specs.Rows.{entry}
use Rattle.schedule.proofs.Marks.{Writing, ahead, next_on, write}
use Rattle.schedule.proofs.cycle.write_loop.Goals as goal

pub loop-t-preserved : goal.loop-t-preserved
loop-t-preserved g c =
    let z = wired c.args.net.now.n (length c.args.net.now.links.now) c.args.net.now.links.now (omega arith) c.args.net.now.sound in
    let q = ahead (graph_of c.args.net.now.links.now) (entry c.args.preds.now) c.args.u c.args.m c.args.steps.now (length c.args.net.now.links.now) c.args.net.now.n z c.requires.traced c.loop-t.steps (c.args.m - c.loop-t.t) c.loop-t.x c.loop-t.invariant.1 (omega arith) in
    let i : c.args.m - 1 - (c.args.m - c.loop-t.t) ≡ c.loop-t.t - 1 = omega arith in
    let t : c.args.m - c.loop-t.t + 1 ≡ c.args.m - (c.loop-t.t - 1) = omega arith in (
      next_on (graph_of c.args.net.now.links.now) (entry c.args.preds.now) c.args.u c.args.m c.args.steps.now (length c.args.net.now.links.now) c.args.net.now.n z c.requires.traced c.loop-t.steps (c.args.m - c.loop-t.t) c.loop-t.x c.loop-t.invariant.1 (omega arith) c.sender-x.result c.sender-x.ensures,
      subst₂ (λ j k. Writing (graph_of c.args.net.now.links.now) (entry c.args.preds.now) c.args.u c.args.m c.args.steps.now (set c.loop-t.steps j c.word.result) k c.sender-x.result) i t
          (write (graph_of c.args.net.now.links.now) (entry c.args.preds.now) c.args.u c.args.m c.args.steps.now c.loop-t.steps (c.args.m - c.loop-t.t) c.loop-t.x c.loop-t.invariant.1 (omega arith) (omega (arith, c.requires.room, c.loop-t.auto.steps)) c.word.result c.sender-x.result (c.word.ensures.word (omega (arith, q.1, c.args.net.now.few))) c.sender-x.ensures),
    )
