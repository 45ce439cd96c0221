use Rattle.std.proofs.Common.{arith}
use Rattle.search.proofs.Verdicts.{shown_none, shown_way}
use Rattle.search.proofs.verdict.way_back.Goals as goal

pub returns-then-rows-new : goal.returns-then-rows-new
returns-then-rows-new g c = record { short = omega arith; shown = shown_none g.K.Kind.meaning c.args.net.now.links.now c.args.net.now.n c.args.rows.now.labels.now c.args.rows.now.up.now c.requires.joined c.args.new.now c.requires.from c.requires.to c.if-rows-new.true c.args.steps.now }

pub returns : goal.returns
returns g c = record { short = c.climb.ensures.short; shown = shown_way g.K.Kind.meaning c.args.net.now.links.now c.args.net.now.n c.args.rows.now.labels.now c.args.rows.now.up.now c.requires.joined c.args.new.now c.requires.from c.requires.to c.if-rows-new.false c.reroot.new.up c.args.steps.now c.climb.new.steps c.climb.result c.reroot.ensures.still c.reroot.ensures.root c.climb.ensures.climbed }
