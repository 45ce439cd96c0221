use Rattle.std.proofs.Common.{◌≡◌, ◌<◌, List, length, get_or}
use Rattle.network.specs.declared.Step.{Step}
use Rattle.network.specs.Climb.{ups}
use Rattle.search.specs.Parents.{parents}
use Rattle.search.specs.Records.{graph_of, On}
use Rattle.search.specs.Chain.{Chain}
use Rattle.search.proofs.Ways.{Leads}
use Rattle.search.proofs.offsets.rise.Given as goal

abbrev pub invariant-loop-x : goal.invariant-loop-x
invariant-loop-x g l =
    On l.net.n l.x
    × Chain (graph_of l.net.links.now) l.net.n l.up l.stack l.top
    × (get_or l.stack l.top 0 ≡ l.x)
    × (get_or l.stack 0 0 ≡ l.v)
    × ((xs : List Step) × (length xs ≡ l.top) × Leads (graph_of l.net.links.now) (parents l.up) l.v xs l.x)
    × (l.top < l.net.n)

abbrev pub decreases-loop-x : goal.decreases-loop-x
decreases-loop-x g l = length (ups (graph_of l.net.links.now) (parents l.up) l.net.n l.x)
