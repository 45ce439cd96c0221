use Rattle.std.proofs.Common.{false, map, refl}
use Rattle.std.proofs.lemmas.Bool.{both_ways}
use Rattle.network.proofs.Lists.{theory}
use Rattle.search.specs.Records.{link_of}
use Rattle.search.specs.Settled.{offset}
use Rattle.search.proofs.Verdicts.{fits_more, fits_old, near_carried, near, not_near}
use Rattle.search.proofs.verdict.fits_with.Goals as goal

pub returns-in_default : goal.returns-in_default
returns-in_default g c =
    let M = g.K.Kind.meaning in
    record {
      size = c.requires.size;
      joined = c.join.ensures;
      yes = λ e. absurd (both_ways false refl e);
      no = λ f. absurd (c.in_default.ensures.carries (fits_old M.quantities (map (link_of M) c.args.net.now.links.now) (link_of M c.args.new.now) f));
    }

pub returns-then-rows-new : goal.returns-then-rows-new
returns-then-rows-new g c =
    let M = g.K.Kind.meaning in
    record {
      size = c.requires.size;
      joined = c.join.ensures;
      yes = λ e. (theory M.quantities (map (link_of M) c.args.net.now.links.now)).add_apart (link_of M c.args.new.now) (offset M c.carry.new.row, c.in-Ok.ensures.carries)
          (not_near M c.args.net.now.links.now c.args.net.now.n c.join.new.labels c.join.new.up c.join.ensures c.args.new.now c.requires.from c.requires.to c.if-rows-new.true);
      no = λ f. refl;
    }

pub returns : goal.returns
returns g c =
    let M = g.K.Kind.meaning in
    let h = c.in-Ok.ensures.carries in
    record {
      size = c.requires.size;
      joined = c.join.ensures;
      yes = λ e. fits_more M.quantities (map (link_of M) c.args.net.now.links.now) (link_of M c.args.new.now) (offset M c.carry.new.row) h (c.carried.ensures.yes e);
      no = λ f. c.carried.ensures.no (near_carried M.quantities (map (link_of M) c.args.net.now.links.now) (link_of M c.args.new.now) (offset M c.carry.new.row) h
          (near M c.args.net.now.links.now c.args.net.now.n c.join.new.labels c.join.new.up c.join.ensures c.args.new.now c.requires.from c.requires.to c.if-rows-new.false) f);
    }
