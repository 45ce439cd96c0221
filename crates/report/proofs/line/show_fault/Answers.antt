use Rattle.std.proofs.Common.{rules}
use Rattle.report.proofs.Appends.{then, whole}
use Rattle.report.proofs.line.show_fault.Goals as goal

pub returns-clause-wrote : goal.returns-clause-wrote
returns-clause-wrote c =
    let p = then c.text.ensures (then c.number.ensures.wrote (then c.text-2.ensures (then c.number-3.ensures.wrote c.text-3.ensures))) in
    let s = p.same.name in
    rw (← c.place.ensures, ← c.number-2.ensures)
    (whole _ _ _ _ _ _ p c.new-line.ensures.value c.new-line.ensures.empty (search rules) c.len.ensures)
