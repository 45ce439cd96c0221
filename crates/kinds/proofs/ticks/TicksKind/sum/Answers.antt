use Rattle.std.proofs.Common.{◌≡◌, ℤ, pos, negsuc, ap, ◌∙◌, arith, w64, SFits}
use Rattle.std.specs.Int.{saturate_to_bits}
use Rattle.std.proofs.lemmas.Int.{ints}
use Rattle.kinds.proofs.ticks.TicksKind.sum.Goals as goal

unsaturated : (z : ℤ) → SFits w64 z → saturate_to_bits 63 z ≡ z
unsaturated (pos n) f = ap pos (omega (arith, f.sfits))
unsaturated (negsuc n) f = ap negsuc (omega (arith, f.sfits))

pub returns : goal.returns
returns c i j a b reach =
    let exact = c.saturating_add.ensures ∙ unsaturated _ (omega (arith, ints)) in
    (omega (arith, ints), omega (arith, ints))
