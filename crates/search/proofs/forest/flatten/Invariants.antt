use Rattle.std.proofs.Common.{◌≡◌, ℕ, ◌+◌, ◌<◌, length, get_or}
use Rattle.search.specs.Joined.{label}
use Rattle.search.specs.Grouped.{Rising, Leader}
use Rattle.search.proofs.forest.flatten.Given as goal

abbrev pub invariant-loop-i : goal.invariant-loop-i
invariant-loop-i l =
    Rising 8192 (length l.initial.labels) (label l.labels) (label l.ranks)
    × ((f : ℕ → ℕ) → Leader (length l.initial.labels) (label l.initial.labels) f → Leader (length l.initial.labels) (label l.labels) f × ((v : ℕ) → v < l.i → get_or l.labels v 0 ≡ f (v + 1)))
