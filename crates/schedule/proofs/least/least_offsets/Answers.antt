use Rattle.std.proofs.Common.{◌≤◌, length, rules}
use Rattle.std.proofs.lemmas.Slice.{overwrites}
use Rattle.schedule.proofs.Outcome.{longer_near, longer_schedule}
use Rattle.schedule.proofs.least.least_offsets.Goals as goal

pub returns : goal.returns
returns g c =
    let M = g.K.Kind.meaning in
    let size : c.args.net.now.n ≤ length c.solve.new.row = search (rules, overwrites) in
    record {
      short = c.solve.ensures.short;
      near = longer_near M c.args.net.now.links.now c.args.net.now.n c.args.net.now.sound c.solve.new.row _ size c.args.net.now.n c.solve.ensures.near;
      schedule = longer_schedule M c.args.net.now.links.now c.args.net.now.n c.args.net.now.sound c.solve.new.row _ size c.args.steps.now c.solve.new.steps c.solve.result c.solve.ensures.schedule;
      totals = search (rules, overwrites);
      numbers = search (rules, overwrites);
    }
