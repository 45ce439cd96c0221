use Rattle.std.proofs.Common.{refl}
use Rattle.search.proofs.verdict.judge.Goals as goal

pub returns-then-fits_with : goal.returns-then-fits_with
returns-then-fits_with g c = record { short = tt; verdict = (c.fits_with.ensures.yes c.if-fits_with.true, refl) }
