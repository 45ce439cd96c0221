use Rattle.std.proofs.Common.{lit≤, rules}
use Rattle.kinds.specs.TickLaws.{tick_meaning}
use Rattle.trials.proofs.Course.{sizes}
use Rattle.trials.proofs.Chained.{one_enters, two_enters}
use Rattle.trials.proofs.chain.chain.Goals as goal

pub returns : goal.returns
returns c =
    let sized = sizes tick_meaning 3 (lit≤ tt) (lit≤ tt) (search rules) c.size-sized.ensures in
    let first = one_enters (lit≤ tt) sized.1 c.link-first.ensures in
    let second = two_enters (lit≤ tt) first.1 c.link-second.ensures in
    record { outcomes = rw (sized.0, first.0, second.0); state = second.1 }
