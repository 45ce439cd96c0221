use Rattle.std.proofs.Common.{◌+◌, ◌-◌, length, refl, arith}
use Rattle.text.proofs.Writes.{text}
use Rattle.report.proofs.Appends.{as_long}
use Rattle.report.proofs.writer.RowWriter.text.Goals as goal

pub returns : goal.returns
returns c =
    let s = c.args.self.now in
    let w = text s.row.now s.len (s.len + length c.args.text.now - s.len) _ _ c.copy_from_slice.ensures.after (omega arith) c.requires in
    record { same = record { name = refl; length = as_long _ _ _ _ _ w c.requires }; wrote = w }
