use Rattle.report.proofs.Appends.{then}
use Rattle.report.proofs.writer.RowWriter.pair.Goals as goal

pub returns-clause-wrote : goal.returns-clause-wrote
returns-clause-wrote c = then c.number.ensures.wrote (then c.text.ensures c.number-2.ensures.wrote)
