use Rattle.search.specs.Records.{graph_of}
use Rattle.search.specs.Grouped.{Grouped}
use Rattle.search.proofs.forest.join.Given as goal

abbrev pub invariant-loop-k : goal.invariant-loop-k
invariant-loop-k g l = Grouped (graph_of l.net.links.now) l.k l.net.n l.labels l.ranks l.up
