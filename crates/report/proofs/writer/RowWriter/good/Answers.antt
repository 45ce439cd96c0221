use Rattle.report.specs.Appending.{Appended}
use Rattle.report.proofs.Appends.{then}
use Rattle.report.proofs.Hexes.{alike}
use Rattle.report.proofs.writer.RowWriter.good.Goals as goal

pub returns-in-Total-clause-wrote : goal.returns-in-Total-clause-wrote
returns-in-Total-clause-wrote g c = rw c.in-Total.is (λ n ss h. then c.text-in-Total.ensures (c.total.ensures.wrote h))

pub returns-in-Totals-clause-wrote : goal.returns-in-Totals-clause-wrote
returns-in-Totals-clause-wrote g c =
    rw c.in-Totals.is
    (λ n ss h. then c.text-in-Totals.ensures (then (c.total-in-Totals.ensures.wrote h.0) (then c.text-in-Totals-2.ensures (c.total-in-Totals-2.ensures.wrote h.1))))

pub returns-in-Offsets-clause-wrote : goal.returns-in-Offsets-clause-wrote
returns-in-Offsets-clause-wrote g c n ss =
    alike g.K.Kind.meaning c.in-Offsets.k n c.args.good c.args.totals.now ss (λ bs. Appended c.args.self.now bs c.offsets.new.self) c.in-Offsets.is
    (λ d h. then c.text-in-Offsets.ensures (c.offsets.ensures.wrote d h))
