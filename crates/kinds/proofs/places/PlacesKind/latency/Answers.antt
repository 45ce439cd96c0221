use Rattle.std.proofs.Common.{◌≡◌, ℕ, ◌<◌, ℤ, pos, negsuc, nat_abs, Some, ap, ◌∙◌, arith}
use Rattle.std.specs.Int.{FitsUnsignedBits}
use Rattle.std.proofs.lemmas.Int.{to_z-of_z}
use Rattle.std.proofs.lemmas.Bool.{cond-true, lt-ltb}
use Rattle.kinds.specs.Places.{cycle, around, clamped, reads}
use Rattle.kinds.proofs.places.PlacesKind.latency.Goals as goal

read : (z : ℤ) (n : ℕ) → FitsUnsignedBits 32 z → n ≡ nat_abs z → n < cycle → reads z ≡ Some (around (clamped n))
read (pos m) n u e h = cond-true _ _ _ (lt-ltb m cycle (omega arith)) ∙ ap (λ k. Some (around k)) (omega arith)
read (negsuc m) n u e h = absurd u

pub returns-in-Ok : goal.returns-in-Ok
returns-in-Ok c =
    let fits = c.ranges.number in
    let converted = simp to_z-of_z at c.in-Ok.ensures in
    read _ _ converted.0 converted.1 (omega arith)
