use Rattle.std.proofs.Common.{◌≤◌, List, length}
use Rattle.network.specs.declared.Step.{Step}
use Rattle.network.specs.Climb.{ups}
use Rattle.search.specs.Parents.{parents}
use Rattle.search.specs.Records.{graph_of, On}
use Rattle.search.specs.Written.{Written}
use Rattle.search.proofs.Ways.{Leads}
use Rattle.search.proofs.path.climb.Given as goal

abbrev pub invariant-loop-s : goal.invariant-loop-s
invariant-loop-s g l = On l.net.n l.x × ((xs : List Step) × Written l.initial.steps l.steps l.m xs × Leads (graph_of l.net.links.now) (parents l.up) l.v xs l.x) × (l.m ≤ l.net.n)

abbrev pub decreases-loop-s : goal.decreases-loop-s
decreases-loop-s g l = length (ups (graph_of l.net.links.now) (parents l.up) l.net.n l.x)
