use Rattle.std.proofs.Common.{length, ◌∙◌, subst, arith}
use Rattle.search.specs.Records.{graph_of}
use Rattle.search.specs.Grouped.{Grouped}
use Rattle.search.specs.Joined.{Joined}
use Rattle.search.proofs.Joining.{none_grouped, all_joined}
use Rattle.search.proofs.forest.join.Goals as goal

pub loop-k-init : goal.loop-k-init
loop-k-init g c =
    let e = c.scatter.auto.labels ∙ c.requires.sizes.0 in
    subst (λ n. Grouped (graph_of c.args.net.now.links.now) 0 n c.scatter.new.labels c.scatter.new.ranks c.scatter.new.up) e
    (none_grouped (graph_of c.args.net.now.links.now) (length c.scatter.new.labels) c.scatter.new.labels c.scatter.new.ranks c.scatter.new.up (λ v h. c.scatter.ensures.labels v (omega arith)) c.scatter.ensures.ranks c.scatter.ensures.up)

pub returns : goal.returns
returns g c =
    let e = c.loop-k.auto.labels ∙ c.scatter.auto.labels ∙ c.requires.sizes.0 in
    let J = all_joined (graph_of c.args.net.now.links.now) c.loop-k.k c.args.net.now.n c.loop-k.labels c.loop-k.ranks c.loop-k.up c.flatten.new.labels e c.loop-k.invariant c.flatten.ensures.inside c.flatten.ensures.leads in
    subst (λ m. Joined (graph_of c.args.net.now.links.now) m c.args.net.now.n c.flatten.new.labels c.loop-k.up) (omega arith) J
