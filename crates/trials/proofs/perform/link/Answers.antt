use Rattle.std.proofs.Common.{◌≡◌, rules}
use Rattle.book.specs.Memory.{shown_answer}
use Rattle.trials.specs.Outcomes.{quantity}
use Rattle.trials.proofs.Rows.{Shows, tells}
use Rattle.trials.proofs.perform.link.Goals as goal

pub returns : goal.returns
returns g c =
    let M = g.K.Kind.meaning in
    let m : M.latency c.latency.result ≡ quantity M c.args.new.measured = search rules in
    let w : M.latency c.latency-2.result ≡ quantity M c.args.new.wanted = search rules in
    let shows : Shows c.link.result c.link.new.steps c.map_err.result = search rules in
    record {
      answer = shown_answer c.link.result c.link.new.steps;
      answered = rw (m, w) at c.link.ensures.call;
      tells = tells _ c.link.result c.map_err.result shows c.link.ensures.rows;
    }
