use Rattle.std.proofs.Common.{lit≤}
use Rattle.trials.proofs.Chained.{late_contradicts}
use Rattle.trials.proofs.chain.closing_link_contradicts.Goals as goal

pub returns : goal.returns
returns c = rw (c.chain.ensures.outcomes, late_contradicts (lit≤ tt) c.chain.ensures.state c.link-refused.ensures)
