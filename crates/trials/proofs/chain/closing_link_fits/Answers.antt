use Rattle.std.proofs.Common.{ap, lit≤}
use Rattle.trials.proofs.Chained.{closing_enters}
use Rattle.trials.proofs.chain.closing_link_fits.Goals as goal

pub returns : goal.returns
returns c =
    let closing = closing_enters (lit≤ tt) c.chain.ensures.state c.link-closing.ensures in
    record { outcomes = rw (c.chain.ensures.outcomes, closing.0); links = ap (λ s. s.links) closing.1.0 }
