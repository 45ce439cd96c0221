use Rattle.std.proofs.Common.{rules}
use Rattle.report.proofs.Appends.{then, whole}
use Rattle.report.proofs.line.show.Goals as goal

pub returns-clause-wrote : goal.returns-clause-wrote
returns-clause-wrote g c n h =
    let p = then c.asked.ensures.wrote (then (c.told.ensures.wrote n h) c.text.ensures) in
    let s = p.same.name in
    whole _ _ _ _ _ _ p c.new-line.ensures.value c.new-line.ensures.empty (search rules) c.len.ensures
