use Rattle.std.proofs.Common.{lit≤}
use Rattle.trials.proofs.Chained.{second_struck, late_enters}
use Rattle.trials.proofs.chain.struck_link_binds_no_more.Goals as goal

pub returns : goal.returns
returns c =
    let struck = second_struck c.chain.ensures.state c.strike-struck.ensures in
    rw (c.chain.ensures.outcomes, struck.0, late_enters (lit≤ tt) struck.1 c.link-taken.ensures)
