use Rattle.std.proofs.Common.{rules}
use Rattle.std.proofs.lemmas.Slice.{overwrites}
use Rattle.search.proofs.known.grounded_offsets.Goals as goal

pub returns-clause-totals : goal.returns-clause-totals
returns-clause-totals g c = search (rules, overwrites)
