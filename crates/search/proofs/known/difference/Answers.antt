use Rattle.std.proofs.Common.{length, arith}
use Rattle.search.specs.Settled.{offset}
use Rattle.search.proofs.Wiring.{wired}
use Rattle.search.proofs.Verdicts.{to_linked, of_linked}
use Rattle.search.proofs.Differences.{told}
use Rattle.search.proofs.known.difference.Goals as goal

pub returns-then-rows-i : goal.returns-then-rows-i
returns-then-rows-i g c = ((offset g.K.Kind.meaning c.carry.new.row, c.in_ok-carry.ensures.carries), λ l. c.if-rows-i.true ((c.join.ensures.labelled c.args.i c.args.j c.requires.i c.requires.j).1 (of_linked g.K.Kind.meaning c.args.net.now.links.now c.args.i c.args.j l)))

pub returns : goal.returns
returns g c =
    told g.K.Kind.meaning c.args.net.now.links.now c.args.net.now.n c.reroot.new.up c.carry.new.row (omega (arith, c.carry.auto.row, c.requires.offsets)) c.carry.ensures.placed
    (wired c.args.net.now.n (length c.args.net.now.links.now) c.args.net.now.links.now (omega arith) c.args.net.now.sound) c.reroot.ensures.still (c.in_ok-carry.ensures.carries)
    c.args.i c.args.j c.requires.i c.requires.j c.reroot.ensures.root
    (to_linked g.K.Kind.meaning c.args.net.now.links.now c.args.i c.args.j ((c.join.ensures.labelled c.args.i c.args.j c.requires.i c.requires.j).0 c.if-rows-i.false))
    c.index-offsets-j.result c.index-offsets-j.is
