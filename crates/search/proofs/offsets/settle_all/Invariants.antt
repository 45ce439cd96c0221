use Rattle.std.proofs.Common.{◌≡◌, ℕ, ◌+◌, ◌<◌, get_or}
use Rattle.search.specs.Settled.{Settled}
use Rattle.search.proofs.offsets.settle_all.Given as goal

abbrev pub invariant-loop-v : goal.invariant-loop-v
invariant-loop-v g l = Settled g.K.Kind.meaning l.net.links.now l.net.n l.up l.marks l.row × ((u : ℕ) → u + 1 < l.v → get_or l.marks u 0 ≡ 0 → ⊥)
