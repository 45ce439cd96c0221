use Rattle.std.proofs.Common.{ℕ, suc, ◌<◌, map}
use Rattle.network.specs.Offsets.{at, Carried}
use Rattle.search.specs.Records.{link_of}
use Rattle.search.specs.Settled.{offset}
use Rattle.search.proofs.carries.all_carried.Given as goal

abbrev pub invariant-loop-link : goal.invariant-loop-link
invariant-loop-link g l = (p : ℕ) → p < l.link-index → Carried g.K.Kind.meaning.quantities (offset g.K.Kind.meaning l.row) (at g.K.Kind.meaning.quantities (map (link_of g.K.Kind.meaning) l.net.links.now) (suc p))
