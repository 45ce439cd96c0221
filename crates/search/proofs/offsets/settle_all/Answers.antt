use Rattle.std.proofs.Common.{◌-◌, arith}
use Rattle.search.proofs.offsets.settle_all.Goals as goal

pub returns : goal.returns
returns g c = λ v o. c.loop-v.invariant.0 v o (c.loop-v.invariant.1 (v - 1) (omega (arith, o.0, o.1)))
