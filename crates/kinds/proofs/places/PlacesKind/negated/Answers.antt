use native.Mathlib.Omega.{arith}
use Rattle·kinds·specs.PlaceLaws.{same-number}
use Rattle·kinds·proofs.places.PlacesKind.negated.Needs as need

pub returns : need.returns
returns c i small _ = (same-number _ _ (omega arith), omega arith)
