use Rattle.std.proofs.Common.{◌-◌, length}
use Rattle.search.specs.Joined.{label}
use Rattle.search.proofs.Groups.{Going}
use Rattle.search.proofs.forest.root.Given as goal

abbrev pub invariant-loop-x : goal.invariant-loop-x
invariant-loop-x l = Going (length l.labels) (label l.labels) (label l.ranks) l.v l.x

abbrev pub decreases-loop-x : goal.decreases-loop-x
decreases-loop-x l = 8192 - label l.ranks l.x
