use Rattle.std.proofs.Common.{◌≡◌, length, ap, ◌∙◌, append-nil, arith}
use Rattle.report.proofs.Appends.{then}
use Rattle.report.proofs.Hexes.{length-hex}
use Rattle.report.proofs.writer.RowWriter.word.Goals as goal

pub text-requires-2 : goal.text-requires-2
text-requires-2 c =
    let l : length c.as_bytes.result.now ≡ 8 = ap length (c.as_bytes.ensures.bytes ∙ c.of_word.ensures) ∙ length-hex 8 c.args.w in
    omega arith

pub returns : goal.returns
returns c =
    let e = c.as_bytes.ensures.bytes ∙ c.of_word.ensures in
    let l : length c.as_bytes.result.now ≡ 8 = ap length e ∙ length-hex 8 c.args.w in
    record { bound = omega arith; wrote = simp (append-nil, ← e) (then c.text.ensures c.text-2.ensures) }
