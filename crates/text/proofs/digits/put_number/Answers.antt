use Rattle.std.proofs.Common.{◌≡◌, ℕ, ◌+◌, ◌≤◌, List, ◌++◌, length, take, drop, decimal, sym, ap, ◌∙◌, subst, append_assoc, arith, length-append}
use Rattle.std.proofs.lemmas.List.{take_at, drop_at, take-append-drop, length-take-le}
use Rattle.text.specs.Writing.{Wrote}
use Rattle.text.proofs.digits.put_number.Goals as goal

-- a row that has bs from one place on, and before and behind them what another has
placed : (row row' bs : List ℕ) (at end : ℕ) → end ≡ at + length bs → end ≤ length row → take at row' ≡ take at row → drop at row' ≡ bs ++ drop end row → Wrote row at bs row' end
placed row row' bs at end e h before from =
    let short : length (take at row ++ bs) ≡ end = omega (arith, length-append (take at row) bs, length-take-le at row (omega arith)) in
    let whole : row' ≡ (take at row ++ bs) ++ drop end row =
    sym (take-append-drop at row') ∙ ap (λ xs. xs ++ drop at row') before ∙ ap (λ xs. take at row ++ xs) from ∙ sym (append_assoc (take at row) bs (drop end row)) in
    record { ends = e; front = ap (take end) whole ∙ take_at (take at row ++ bs) (drop end row) end short; past = ap (drop end) whole ∙ drop_at (take at row ++ bs) (drop end row) end short }

pub returns : goal.returns
returns c =
    let e = c.write_digits.ensures in
    let at : c.write_digits.result ≡ c.args.at = omega (arith, e.start, c.width.ensures) in
    placed c.args.row.now c.write_digits.new.buf (decimal c.args.n) c.args.at (c.args.at + c.width.result) (omega (arith, c.width.ensures)) (omega (arith, c.width.ensures))
    (subst (λ i. take i c.write_digits.new.buf ≡ take i c.args.row.now) at e.before)
    (subst (λ i. drop i c.write_digits.new.buf ≡ decimal c.args.n ++ drop (c.args.at + c.width.result) c.args.row.now) at e.written)
