use Rattle.report.proofs.Appends.{then}
use Rattle.report.proofs.writer.RowWriter.asked.Goals as goal

pub returns-in-Size-clause-wrote : goal.returns-in-Size-clause-wrote
returns-in-Size-clause-wrote c = rw c.in-Size.is (then c.text.ensures c.number.ensures.wrote)

pub returns-in-Link-clause-wrote : goal.returns-in-Link-clause-wrote
returns-in-Link-clause-wrote c = rw c.in-Link.is (then c.text-in-Link.ensures c.pair.ensures.wrote)

pub returns-in-Strike-clause-wrote : goal.returns-in-Strike-clause-wrote
returns-in-Strike-clause-wrote c = rw c.in-Strike.is (then c.text-in-Strike.ensures c.pair-in-Strike.ensures.wrote)

pub returns-in-Offset-clause-wrote : goal.returns-in-Offset-clause-wrote
returns-in-Offset-clause-wrote c = rw c.in-Offset.is (then c.text-in-Offset.ensures c.pair-in-Offset.ensures.wrote)
