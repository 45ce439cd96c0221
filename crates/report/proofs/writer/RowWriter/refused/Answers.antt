use Rattle.std.proofs.Common.{arith}
use Rattle.std.proofs.lemmas.List.{length-take-le}
use Rattle.report.proofs.Appends.{then}
use Rattle.report.proofs.writer.RowWriter.refused.Goals as goal

pub returns : goal.returns
returns c = record {
  bound = omega (arith, length-take-le c.args.x.shown c.args.steps.now c.requires.shown.1);
  wrote = rw (← c.number.ensures) (then c.text.ensures (then c.number-2.ensures.wrote c.steps.ensures.wrote));
}
