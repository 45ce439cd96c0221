use Rattle.std.proofs.Common.{ℕ, zero, suc, ◌<◌, false, List, map, length, sym, refl, subst, arith, below_more}
use Rattle.std.proofs.lemmas.List.{length-map}
use Rattle.std.proofs.lemmas.Bool.{both_ways}
use Rattle.kind.specs.Group.{Quantities}
use Rattle.network.specs.Offsets.{Link, at, Carried, Carries}
use Rattle.search.specs.Records.{link_of}
use Rattle.search.specs.Settled.{offset}
use Rattle.search.proofs.Wiring.{link_here}
use Rattle.search.proofs.carries.all_carried.Goals as goal

from_one : (K : Quantities) (c : ℕ → K.Q) (links : List (Link K.Q)) → ((p : ℕ) → p < length links → Carried K c (at K links (suc p))) → Carries K c links
from_one K c links h zero u = absurd (omega arith)
from_one K c links h (suc p) u = h p (omega arith)

pub returns-then-not-carried : goal.returns-then-not-carried
returns-then-not-carried g c =
    record {
      yes = λ e. absurd (both_ways false refl e);
      no = λ h. absurd (both_ways c.carried.result c.if-not-carried.true (c.carried.ensures.no
          (subst (Carried g.K.Kind.meaning.quantities (offset g.K.Kind.meaning c.args.row.now)) (link_here g.K.Kind.meaning c.args.net.now.links.now c.loop-link.link-index c.link-item.result (omega arith) c.link-item.is)
          (h (suc c.loop-link.link-index) (omega arith, omega (arith, length-map c.args.net.now.links.now (link_of g.K.Kind.meaning)))))));
    }

pub loop-link-preserved : goal.loop-link-preserved
loop-link-preserved g c =
    below_more (λ p. Carried g.K.Kind.meaning.quantities (offset g.K.Kind.meaning c.args.row.now) (at g.K.Kind.meaning.quantities (map (link_of g.K.Kind.meaning) c.args.net.now.links.now) (suc p))) c.loop-link.link-index c.loop-link.invariant
    (subst (Carried g.K.Kind.meaning.quantities (offset g.K.Kind.meaning c.args.row.now)) (sym (link_here g.K.Kind.meaning c.args.net.now.links.now c.loop-link.link-index c.link-item.result (omega arith) c.link-item.is)) (c.carried.ensures.yes c.if-not-carried.false))
