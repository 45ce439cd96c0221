use Rattle.std.proofs.Common.{◌≡◌, ◌-◌, get_or}
use Rattle.search.specs.Settled.{Settled, Kept}
use Rattle.search.proofs.offsets.settle.Given as goal

abbrev pub invariant-loop-i : goal.invariant-loop-i
invariant-loop-i g l =
    Settled g.K.Kind.meaning l.net.links.now l.net.n l.up l.marks l.row
    × Kept l.initial.marks l.marks
    × (get_or l.marks (get_or l.stack l.i 0 - 1) 0 ≡ 0 → ⊥)
