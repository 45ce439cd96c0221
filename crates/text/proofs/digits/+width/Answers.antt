use Rattle.std.proofs.Common.{◌≡◌, ℕ, ◌+◌, ◌/◌, ◌%◌, ◌^◌, ◌<◌, ◌≤◌, length, decimal, sym, ap, arith, rules}
use Rattle.std.proofs.lemmas.List.{length_push}
use Rattle.std.proofs.lemmas.Fmt.{decimal_digit, decimal_step, length-decimal-le}
use Rattle.text.proofs.digits.+width.Goals as goal

longer : (n : ℕ) → 10 ≤ n → n < 2 ^ 64 → length (decimal n) ≡ length (decimal (n / 10)) + 1
longer n h f = rw (decimal_step n h f) (length_push (decimal (n / 10)) (48 + n % 10))

pub overflow_add-result : goal.overflow_add-result
overflow_add-result t c =
    let h : c.width.result ≤ 20 = omega (arith, c.width.ensures, length-decimal-le 20 (c.args.n / 10) (omega arith) (omega arith) (omega arith)) in
    search rules

pub returns-then-n-lt10 : goal.returns-then-n-lt10
returns-then-n-lt10 t c = sym (ap length (decimal_digit c.args.n (omega arith)))

pub returns-else-n-lt10 : goal.returns-else-n-lt10
returns-else-n-lt10 t c = omega (arith, longer c.args.n (omega arith) (omega arith), c.width.ensures)
