use Rattle.std.proofs.Common.{length, get_or, refl}
use Rattle.search.specs.Records.{graph_of}
use Rattle.search.proofs.Rooting.{passed, room, met_first}
use Rattle.search.proofs.lowest.root_next.Goals as goal

pub overflow_sub-group : goal.overflow_sub-group
overflow_sub-group g c = (room (graph_of c.args.net.now.links.now) (length c.args.net.now.links.now) c.args.net.now.n c.args.labels.now c.args.marks.now c.args.up.now c.args.i c.requires.next c.requires.rooted (get_or c.args.labels.now c.args.i 0) refl c.requires.inside c.requires.sizes.2).0

pub bounds-marks-group : goal.bounds-marks-group
bounds-marks-group g c = (room (graph_of c.args.net.now.links.now) (length c.args.net.now.links.now) c.args.net.now.n c.args.labels.now c.args.marks.now c.args.up.now c.args.i c.requires.next c.requires.rooted (get_or c.args.labels.now c.args.i 0) refl c.requires.inside c.requires.sizes.2).1

pub bounds-marks-group-2 : goal.bounds-marks-group-2
bounds-marks-group-2 g c = (room (graph_of c.args.net.now.links.now) (length c.args.net.now.links.now) c.args.net.now.n c.args.labels.now c.args.marks.now c.args.up.now c.args.i c.requires.next c.requires.rooted (get_or c.args.labels.now c.args.i 0) refl c.requires.inside c.requires.sizes.2).1

pub returns-then-marks-group-ne0 : goal.returns-then-marks-group-ne0
returns-then-marks-group-ne0 g c = passed (graph_of c.args.net.now.links.now) (length c.args.net.now.links.now) c.args.net.now.n c.args.labels.now c.args.marks.now c.args.up.now c.args.i c.requires.next c.requires.rooted (get_or c.args.labels.now c.args.i 0) refl c.if-marks-group-ne0.true

pub returns : goal.returns
returns g c = met_first (graph_of c.args.net.now.links.now) (length c.args.net.now.links.now) c.args.net.now.n c.args.labels.now c.args.marks.now c.args.up.now c.args.i c.requires.next c.requires.rooted (get_or c.args.labels.now c.args.i 0) refl c.requires.inside c.requires.sizes.2 c.requires.labelled c.if-marks-group-ne0.false c.reroot.new.up c.reroot.ensures.still c.reroot.ensures.root c.reroot.ensures.others
