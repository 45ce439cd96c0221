use Rattle.std.proofs.Common.{arith}
use Rattle.kinds.specs.PlaceLaws.{same_number}
use Rattle.kinds.proofs.places.PlacesKind.sum.Goals as goal

pub returns : goal.returns
returns c i j a b _ = (same_number _ _ (omega arith), omega arith)
