-- Ticks are a kind: whole numbers are its quantities, and keep its laws.
use Rattle.std.specs.Prelude.{◌≡◌, ℕ, ◌≤◌, true, ℤ, pos, ◌+ℤ◌, neg_ℤ, Some, int_le, refl}
use Rattle.std.proofs.Common.{sym, arith}
use Rattle.std.proofs.Math.IntN.{+ℤ_assoc, +ℤ_comm, +ℤ_idl, +ℤ_invr}
use Rattle.std.proofs.lemmas.Int.{ints, clamps}
use Rattle.std.proofs.lemmas.Bool.{true≢false, cond-true, and_from}
use Rattle.std.specs.Fmt.{signed_decimal}
use Rattle.kind.specs.Group.{Laws, Quantities}
use Rattle.kind.specs.Meaning.{Meaning}
use Rattle.kind.specs.Order.{Ordered}
use Rattle.kinds.specs.declared.ticks.TickLatency.{TickLatency}
use Rattle.kinds.specs.Ticks.{limit, clamped, Within, reads, below}

pub group : Laws ℤ (pos 0) ◌+ℤ◌ neg_ℤ
group = record {
  assoc = +ℤ_assoc;
  comm = +ℤ_comm;
  left = +ℤ_idl;
  inv = +ℤ_invr;
  some = (pos 1, λ e. omega (arith, ints));
}

abbrev ticks : Quantities
ticks = record { Q = ℤ; zero = pos 0; plus = ◌+ℤ◌; minus = neg_ℤ; laws = group }

pub order : Ordered ticks below
order = record {
  level = refl;
  turned = λ x h. sym (omega (arith, ints));
  three = λ x h k. omega (arith, ints);
  sums = λ x y h k. sym (omega (arith, ints));
}

pub wider : (i j : ℕ) (t : ℤ) → i ≤ j → Within i t → Within j t
wider i j t h w = omega (arith, ints)

least : (z : ℤ) → true ≡ int_le (neg_ℤ (pos limit)) (clamped z)
least z = omega (arith, ints, clamps)

most : (z : ℤ) → true ≡ int_le (clamped z) (pos limit)
most z = omega (arith, ints, clamps)

pub ranged : (l : TickLatency) → (z : ℤ) × (reads z ≡ Some (clamped l.number))
ranged l = let z = l.number in (clamped z, cond-true _ _ _ (and_from _ _ (sym (least z)) (sym (most z))))

abbrev pub tick_meaning : Meaning TickLatency ℤ
tick_meaning = record {
  quantities = ticks;
  ordered = true;
  below = below;
  order = λ _. order;
  flat = λ e. absurd (true≢false e);
  latency = λ l. clamped l.number;
  total = λ t. t;
  within = Within;
  wider = wider;
  reads = reads;
  ranged = ranged;
  text = signed_decimal;
}
