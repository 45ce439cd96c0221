use Rattle.std.proofs.Common.{◌≤◌, length, arith}
use Rattle.std.proofs.lemmas.Bool.{both_ways}
use Rattle.search.proofs.Wiring.{wired}
use Rattle.search.proofs.Verdicts.{reached, fits_carries}
use Rattle.search.proofs.carries.carry.Goals as goal

pub all_carried-requires : goal.all_carried-requires
all_carried-requires g c =
    let z = wired c.args.net.now.n (length c.args.net.now.links.now) c.args.net.now.links.now (omega arith) c.args.net.now.sound in
    let b : c.args.net.now.n ≤ length c.args.row.now = c.requires.sizes.1 in
    record {
      size = omega (arith, c.settle_all.auto.row);
      near = reached g.K.Kind.meaning c.args.net.now.links.now c.args.net.now.n c.args.up.now c.settle_all.new.row z c.requires.forest c.settle_all.ensures c.args.net.now.small;
    }

pub returns-then-all_carried : goal.returns-then-all_carried
returns-then-all_carried g c =
    let z = wired c.args.net.now.n (length c.args.net.now.links.now) c.args.net.now.links.now (omega arith) c.args.net.now.sound in
    record {
      placed = c.settle_all.ensures;
      near = reached g.K.Kind.meaning c.args.net.now.links.now c.args.net.now.n c.args.up.now c.settle_all.new.row z c.requires.forest c.settle_all.ensures c.args.net.now.small;
      carries = c.all_carried.ensures.yes c.if-all_carried.true;
    }

pub returns-else-all_carried : goal.returns-else-all_carried
returns-else-all_carried g c =
    let z = wired c.args.net.now.n (length c.args.net.now.links.now) c.args.net.now.links.now (omega arith) c.args.net.now.sound in
    let b : c.args.net.now.n ≤ length c.args.row.now = c.requires.sizes.1 in
    record {
      placed = c.settle_all.ensures;
      near = reached g.K.Kind.meaning c.args.net.now.links.now c.args.net.now.n c.args.up.now c.settle_all.new.row z c.requires.forest c.settle_all.ensures c.args.net.now.small;
      carries = λ h. both_ways c.all_carried.result c.if-all_carried.false (c.all_carried.ensures.no (fits_carries g.K.Kind.meaning c.args.net.now.links.now c.args.net.now.n c.args.up.now c.settle_all.new.row z c.requires.forest c.settle_all.ensures (omega (arith, c.settle_all.auto.row)) h));
    }
