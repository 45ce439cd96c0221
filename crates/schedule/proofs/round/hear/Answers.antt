use Rattle.std.proofs.Common.{◌+◌, ◌≤◌, length, arith}
use Rattle.schedule.proofs.Reading.{raised}
use Rattle.schedule.proofs.round.hear.Goals as goal

pub returns : goal.returns
returns g c =
    let size : c.args.net.now.n + c.args.net.now.n ≤ length c.args.row.now = omega (arith, c.requires.totals) in
    record {
      size = c.requires.size;
      heard = raised g.K.Kind.meaning c.args.net.now.n c.args.k c.requires.early c.args.link.now c.args.row.now size c.requires.from c.requires.to c.requires.near c.requires.behind c.index-row-net.result c.index-row-receiver.result c.index-row-net.is
          c.falls_short.result c.falls_short.ensures c.if-not-falls_short.false c.asked.result c.asked.ensures c.args.p c.args.rows.now.stamps.now c.args.rows.now.preds.now;
    }
