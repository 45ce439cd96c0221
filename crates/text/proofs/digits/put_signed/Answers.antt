use Rattle.std.proofs.Common.{◌≡◌, ℕ, ◌^◌, ◌≤◌, ◌∷◌, length, ℤ, pos, negsuc, nat_abs, ◌≤ℤ◌, ◌<ℤ◌, decimal, refl, arith, length-set}
use Rattle.std.specs.Fmt.{signed_decimal}
use Rattle.std.proofs.lemmas.Int.{ints, to_z-of_z}
use Rattle.std.proofs.lemmas.Fmt.{length-decimal-le}
use Rattle.text.proofs.Writes.{byte, then}
use Rattle.text.proofs.digits.put_signed.Goals as goal

negative : (z : ℤ) (n : ℕ) → z <ℤ pos 0 → n ≡ nat_abs z → signed_decimal z ≡ 45 ∷ decimal n
negative (pos m) n h e = absurd (omega (arith, ints))
negative (negsuc m) n h e = rw e refl

positive : (z : ℤ) (n : ℕ) → pos 0 ≤ℤ z → n ≡ nat_abs z → signed_decimal z ≡ decimal n
positive (pos m) n h e = rw e refl
positive (negsuc m) n h e = absurd (omega (arith, ints))

short : (n : ℕ) → n ≤ 2 ^ 63 → length (decimal n) ≤ 19
short n h = length-decimal-le 19 n (omega arith) (omega arith) (omega arith)

pub put_number-requires : goal.put_number-requires
put_number-requires c = omega (arith, short c.unsigned_abs-n.result c.unsigned_abs-n.ensures.bound)

pub put_number-requires-2 : goal.put_number-requires-2
put_number-requires-2 c = omega (arith, length-set c.args.row.now 0 45, short c.unsigned_abs-n.result c.unsigned_abs-n.ensures.bound)

pub returns-then-z-ge0 : goal.returns-then-z-ge0
returns-then-z-ge0 c =
    let f = c.ranges.z in
    let v : c.unsigned_abs-n.result ≡ nat_abs c.args.z = simp to_z-of_z at c.unsigned_abs-n.ensures.value in
    let p : pos 0 ≤ℤ c.args.z = omega (arith, ints) in
    rw (positive c.args.z c.unsigned_abs-n.result p v) c.put_number.ensures

pub returns : goal.returns
returns c =
    let f = c.ranges.z in
    let v : c.unsigned_abs-n.result ≡ nat_abs c.args.z = simp to_z-of_z at c.unsigned_abs-n.ensures.value in
    let p : c.args.z <ℤ pos 0 = omega (arith, ints) in
    rw (negative c.args.z c.unsigned_abs-n.result p v) (then (byte _ _ _ (omega arith)) c.put_number-2.ensures)
