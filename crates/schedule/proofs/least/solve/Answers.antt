use Rattle.std.proofs.Common.{length, arith}
use Rattle.search.specs.Records.{graph_of}
use Rattle.search.proofs.Filled.{zeros}
use Rattle.schedule.specs.Rows.{entry}
use Rattle.schedule.proofs.Looping.{round_traced}
use Rattle.schedule.proofs.Outcome.{row_traced, shown}
use Rattle.schedule.proofs.least.solve.Goals as goal

pub find_loop-u-requires : goal.find_loop-u-requires
find_loop-u-requires g c =
    let M = g.K.Kind.meaning in
    let r = c.in-Some.ensures.raised in
    record {
      sizes = (omega (arith, c.settle.new.rows.sizes.1, c.settle.ensures.size), omega (arith, c.settle.new.rows.sizes.2, c.settle.ensures.size, c.fill.ensures.len));
      clean = zeros (length c.settle.new.rows.marks.now) c.fill.new.self (c.fill.ensures.after (λ y e. e));
      inside = r.0;
      traced = row_traced M c.args.net.now.links.now c.args.net.now.n c.args.net.now.sound (M.order c.requires.ordered) c.settle.new.row c.settle.new.rows.stamps.now c.settle.new.rows.preds.now r.2 c.in-Some.raised r.0 r.1;
    }

pub write_loop-requires : goal.write_loop-requires
write_loop-requires g c =
    let M = g.K.Kind.meaning in
    let r = c.in-Some.ensures.raised in
    let C = c.find_loop-u.ensures.1 in
    record {
      size = omega (arith, c.settle.new.rows.sizes.1, c.settle.ensures.size);
      room = omega (arith, C.low, c.requires.steps);
      inside = c.find_loop-u.ensures.0;
      traced = round_traced (graph_of c.args.net.now.links.now) (entry c.settle.new.rows.preds.now) (length c.args.net.now.links.now) c.args.net.now.n c.in-Some.raised c.find_loop-u.result.0 c.find_loop-u.result.1
          (row_traced M c.args.net.now.links.now c.args.net.now.n c.args.net.now.sound (M.order c.requires.ordered) c.settle.new.row c.settle.new.rows.stamps.now c.settle.new.rows.preds.now r.2 c.in-Some.raised r.0 r.1) C;
    }

pub returns : goal.returns
returns g c =
    let M = g.K.Kind.meaning in
    let r = c.in-Some.ensures.raised in
    let C = c.find_loop-u.ensures.1 in
    record {
      short = omega (arith, C.low);
      near = c.settle.ensures.near;
      schedule = shown M c.args.net.now.links.now c.args.net.now.n c.args.net.now.sound (M.order c.requires.ordered) c.settle.new.row c.settle.new.rows.stamps.now c.settle.new.rows.preds.now r.2 c.in-Some.raised r.0 r.1 c.find_loop-u.result.0 c.find_loop-u.result.1 C c.args.steps.now c.write_loop.new.steps c.write_loop.ensures;
    }
