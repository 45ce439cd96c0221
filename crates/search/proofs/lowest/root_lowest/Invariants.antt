use Rattle.std.proofs.Common.{length}
use Rattle.search.specs.Records.{graph_of}
use Rattle.search.specs.Rooted.{Rooted}
use Rattle.search.proofs.lowest.root_lowest.Given as goal

abbrev pub invariant-loop-i : goal.invariant-loop-i
invariant-loop-i g l = Rooted (graph_of l.net.links.now) (length l.net.links.now) l.net.n l.labels l.marks l.up l.i
