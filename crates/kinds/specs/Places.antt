-- Places of a cycle of 1,000: how they add up, and what latencies and totals mean.
use Rattle.std.specs.Prelude.{ℕ, ◌+◌, ◌-◌, ◌%◌, ◌<◌, min, cond, T, ℤ, pos, negsuc, Some, None, Option, nat_lt}
use Rattle.std.proofs.Common.{mod-lt, lt→ltb, lit<}

abbrev pub cycle : ℕ
cycle = 1000

-- one of the places 0 to 999
pub record Place : Type 0 where
  pub number : ℕ
  pub small : T (nat_lt number cycle)

-- the place that is n steps on from place 0
abbrev pub around : ℕ → Place
around n = record { number = n % cycle; small = lt→ltb (n % cycle) cycle (mod-lt n (lit< tt)) }

abbrev pub plus : Place → Place → Place
plus x y = around (x.number + y.number)

abbrev pub minus : Place → Place
minus x = around (cycle - x.number)

-- the last place for a number past it
abbrev pub clamped : ℕ → ℕ
clamped n = min n (cycle - 1)

-- whatever the reach, a total is a place's number
abbrev pub Within : ℕ → ℕ → Type 0
Within r t = t < cycle

-- a number that no place has is no latency
abbrev pub reads : ℤ → Option Place
reads (pos n) = cond (nat_lt n cycle) (Some (around n)) None
reads (negsuc n) = None
