use Rattle.std.proofs.Common.{◌+◌, length, sym, refl, subst, arith}
use Rattle.search.specs.Records.{Sound, graph_of}
use Rattle.search.specs.Joined.{label}
use Rattle.search.specs.Grouped.{Grouped, under}
use Rattle.search.proofs.Groups.{wider}
use Rattle.search.proofs.Joining.{on_i, on_j, stays, skips, not_near, not_back, forward, backward}
use Rattle.search.proofs.forest.join_next.Goals as goal

pub root-a-requires : goal.root-a-requires
root-a-requires g c =
    let G = subst (λ n. Grouped (graph_of c.args.net.now.links.now) c.args.k n c.args.labels.now c.args.ranks.now c.args.up.now) (sym c.requires.sizes.0) c.requires.grouped in
    let S = subst (λ n. Sound n c.args.net.now.links.now) (sym c.requires.sizes.0) c.args.net.now.sound in
    record { rising = wider c.args.k 8192 (length c.args.labels.now) (label c.args.labels.now) (label c.args.ranks.now) (omega (arith, c.requires.room, c.args.net.now.few)) G.rising; inside = on_i c.args.net.now.links.now c.args.k (length c.args.labels.now) c.requires.room S c.far_end-i.result c.far_end-j.result c.far_end-i.ensures c.far_end-j.ensures }

pub root-b-requires : goal.root-b-requires
root-b-requires g c =
    let G = subst (λ n. Grouped (graph_of c.args.net.now.links.now) c.args.k n c.args.labels.now c.args.ranks.now c.args.up.now) (sym c.requires.sizes.0) c.requires.grouped in
    let S = subst (λ n. Sound n c.args.net.now.links.now) (sym c.requires.sizes.0) c.args.net.now.sound in
    record { rising = wider c.args.k 8192 (length c.args.labels.now) (label c.args.labels.now) (label c.args.ranks.now) (omega (arith, c.requires.room, c.args.net.now.few)) G.rising; inside = on_j c.args.net.now.links.now c.args.k (length c.args.labels.now) c.requires.room S c.far_end-i.result c.far_end-j.result c.far_end-i.ensures c.far_end-j.ensures }

pub returns-then-a-b : goal.returns-then-a-b
returns-then-a-b g c =
    let G = subst (λ n. Grouped (graph_of c.args.net.now.links.now) c.args.k n c.args.labels.now c.args.ranks.now c.args.up.now) (sym c.requires.sizes.0) c.requires.grouped in
    let S = subst (λ n. Sound n c.args.net.now.links.now) (sym c.requires.sizes.0) c.args.net.now.sound in
    subst (λ n. Grouped (graph_of c.args.net.now.links.now) (c.args.k + 1) n c.args.labels.now c.args.ranks.now c.args.up.now) c.requires.sizes.0 (record {
      forest = skips c.args.net.now.links.now c.args.k (length c.args.labels.now) c.requires.room S c.far_end-i.result c.far_end-j.result c.far_end-i.ensures c.far_end-j.ensures G.leader G.labelled c.root-a.result c.root-b.result (c.root-a.ensures.leader G.leader G.leads) (c.root-b.ensures.leader G.leader G.leads) c.args.up.now G.forest c.if-a-b.true;
      rising = wider c.args.k (c.args.k + 1) (length c.args.labels.now) (label c.args.labels.now) (label c.args.ranks.now) (omega arith) G.rising;
      leader = G.leader;
      leads = G.leads;
      labelled = stays c.args.net.now.links.now c.args.k (length c.args.labels.now) c.requires.room S c.far_end-i.result c.far_end-j.result c.far_end-i.ensures c.far_end-j.ensures G.leader G.labelled c.root-a.result c.root-b.result (c.root-a.ensures.leader G.leader G.leads) (c.root-b.ensures.leader G.leader G.leads) c.if-a-b.true;
    })

pub hang-requires : goal.hang-requires
hang-requires g c =
    let G = subst (λ n. Grouped (graph_of c.args.net.now.links.now) c.args.k n c.args.labels.now c.args.ranks.now c.args.up.now) (sym c.requires.sizes.0) c.requires.grouped in
    let S = subst (λ n. Sound n c.args.net.now.links.now) (sym c.requires.sizes.0) c.args.net.now.sound in
    record {
      forest = G.forest;
      size = c.requires.sizes.1;
      room = c.requires.room;
      next = refl;
      apart = not_near c.args.net.now.links.now c.args.k (length c.args.labels.now) c.requires.room S c.far_end-i.result c.far_end-j.result c.far_end-i.ensures c.far_end-j.ensures G.leader G.labelled c.root-a.result c.root-b.result (c.root-a.ensures.leader G.leader G.leads) (c.root-b.ensures.leader G.leader G.leads) c.if-a-b.false;
    }

pub hang-requires-else-ranks-a : goal.hang-requires-else-ranks-a
hang-requires-else-ranks-a g c =
    let G = subst (λ n. Grouped (graph_of c.args.net.now.links.now) c.args.k n c.args.labels.now c.args.ranks.now c.args.up.now) (sym c.requires.sizes.0) c.requires.grouped in
    let S = subst (λ n. Sound n c.args.net.now.links.now) (sym c.requires.sizes.0) c.args.net.now.sound in
    record {
      forest = G.forest;
      size = c.requires.sizes.1;
      room = c.requires.room;
      next = refl;
      apart = not_back c.args.net.now.links.now c.args.k (length c.args.labels.now) c.requires.room S c.far_end-i.result c.far_end-j.result c.far_end-i.ensures c.far_end-j.ensures G.leader G.labelled c.root-a.result c.root-b.result (c.root-a.ensures.leader G.leader G.leads) (c.root-b.ensures.leader G.leader G.leads) c.if-a-b.false;
    }

pub returns-then-ranks-a : goal.returns-then-ranks-a
returns-then-ranks-a g c =
    let G = subst (λ n. Grouped (graph_of c.args.net.now.links.now) c.args.k n c.args.labels.now c.args.ranks.now c.args.up.now) (sym c.requires.sizes.0) c.requires.grouped in
    let S = subst (λ n. Sound n c.args.net.now.links.now) (sym c.requires.sizes.0) c.args.net.now.sound in
    subst (λ n. Grouped (graph_of c.args.net.now.links.now) (c.args.k + 1) n c.unite.new.labels c.unite.new.ranks c.hang.new.up) c.requires.sizes.0 (record {
      forest = c.hang.ensures;
      rising = c.unite.ensures.rising c.args.k G.rising;
      leader = under G.leader c.root-a.result c.root-b.result;
      leads = c.unite.ensures.leads G.leader G.leads;
      labelled = forward c.args.net.now.links.now c.args.k (length c.args.labels.now) c.requires.room S c.far_end-i.result c.far_end-j.result c.far_end-i.ensures c.far_end-j.ensures G.leader G.labelled c.root-a.result c.root-b.result (c.root-a.ensures.leader G.leader G.leads) (c.root-b.ensures.leader G.leader G.leads);
    })

pub returns-else-ranks-a : goal.returns-else-ranks-a
returns-else-ranks-a g c =
    let G = subst (λ n. Grouped (graph_of c.args.net.now.links.now) c.args.k n c.args.labels.now c.args.ranks.now c.args.up.now) (sym c.requires.sizes.0) c.requires.grouped in
    let S = subst (λ n. Sound n c.args.net.now.links.now) (sym c.requires.sizes.0) c.args.net.now.sound in
    subst (λ n. Grouped (graph_of c.args.net.now.links.now) (c.args.k + 1) n c.unite-else-ranks-a.new.labels c.unite-else-ranks-a.new.ranks c.hang-else-ranks-a.new.up) c.requires.sizes.0 (record {
      forest = c.hang-else-ranks-a.ensures;
      rising = c.unite-else-ranks-a.ensures.rising c.args.k G.rising;
      leader = under G.leader c.root-b.result c.root-a.result;
      leads = c.unite-else-ranks-a.ensures.leads G.leader G.leads;
      labelled = backward c.args.net.now.links.now c.args.k (length c.args.labels.now) c.requires.room S c.far_end-i.result c.far_end-j.result c.far_end-i.ensures c.far_end-j.ensures G.leader G.labelled c.root-a.result c.root-b.result (c.root-a.ensures.leader G.leader G.leads) (c.root-b.ensures.leader G.leader G.leads);
    })
