use Rattle.std.proofs.Common.{◌≡◌, ℕ, length}
use Rattle.network.specs.Graph.{Connected, Upto}
use Rattle.network.specs.Climb.{ups}
use Rattle.network.proofs.Turning.{Rerooting}
use Rattle.network.specs.Words.{decode}
use Rattle.search.specs.Parents.{parents}
use Rattle.search.specs.Records.{graph_of, On}
use Rattle.search.proofs.forest.reroot.Given as goal

abbrev pub invariant-loop-s : goal.invariant-loop-s
invariant-loop-s g l =
    Rerooting (graph_of l.net.links.now) l.count (parents l.up) l.i l.x (decode l.hang)
    × On l.net.n l.x
    × Connected (graph_of l.net.links.now) (Upto l.count) l.i l.x
    × ((v : ℕ) → (Connected (graph_of l.net.links.now) (Upto l.count) l.i v → ⊥) → parents l.up v ≡ parents l.initial.up v)

abbrev pub decreases-loop-s : goal.decreases-loop-s
decreases-loop-s g l = length (ups (graph_of l.net.links.now) (parents l.up) l.net.n l.x)
