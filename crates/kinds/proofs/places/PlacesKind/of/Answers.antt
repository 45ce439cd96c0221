use Rattle.std.proofs.Common.{ap, arith}
use Rattle.kinds.specs.Places.{around}
use Rattle.kinds.proofs.places.PlacesKind.of.Goals as goal

pub returns : goal.returns
returns c = (ap around c.min.ensures, omega arith)
