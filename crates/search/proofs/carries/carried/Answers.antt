use Rattle.std.proofs.Common.{sym, ◌∙◌}
use Rattle.search.specs.Settled.{offset}
use Rattle.search.proofs.Carrying.{apart, level, side}
use Rattle.search.proofs.carries.carried.Goals as goal

pub returns : goal.returns
returns g c =
    let a = side g.K.Kind.meaning c.args.row.now c.args.net.now.n c.requires.size c.requires.near c.args.link.now.from c.requires.from c.index-row-link.result c.index-row-link.is c.of.result c.sum-a.result (g.K.Kind.meaning.latency c.args.link.now.wanted) c.of.ensures c.sum-a.ensures in
    let b = side g.K.Kind.meaning c.args.row.now c.args.net.now.n c.requires.size c.requires.near c.args.link.now.to c.requires.to c.index-row-link-2.result c.index-row-link-2.is c.of-2.result c.sum-b.result (g.K.Kind.meaning.latency c.args.link.now.measured) c.of-2.ensures c.sum-b.ensures in
    record {
      yes = λ t. apart g.K.Kind.meaning.quantities (g.K.Kind.meaning.latency c.args.link.now.wanted) (g.K.Kind.meaning.latency c.args.link.now.measured) (offset g.K.Kind.meaning c.args.row.now c.args.link.now.from) (offset g.K.Kind.meaning c.args.row.now c.args.link.now.to) (sym a.0 ∙ c.same.ensures.yes a.1 b.1 t ∙ b.0);
      no = λ e. c.same.ensures.no a.1 b.1 (a.0 ∙ level g.K.Kind.meaning.quantities (g.K.Kind.meaning.latency c.args.link.now.wanted) (g.K.Kind.meaning.latency c.args.link.now.measured) (offset g.K.Kind.meaning c.args.row.now c.args.link.now.from) (offset g.K.Kind.meaning c.args.row.now c.args.link.now.to) e ∙ sym b.0);
    }
