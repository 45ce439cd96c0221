-- Ticks: what latencies and totals mean.
use Rattle.std.specs.Prelude.{ℕ, ◌*◌, Bool, cond, ◌&&◌, ℤ, pos, neg_ℤ, ◌≤ℤ◌, Some, None, Option, int_le, int_lt}
use Rattle.std.specs.Int.{int_min, int_max}

abbrev pub limit : ℕ
limit = 100_000_000

-- the number from -limit to limit that is nearest to z
abbrev pub clamped : ℤ → ℤ
clamped z = int_max (neg_ℤ (pos limit)) (int_min z (pos limit))

-- the totals of at most r latencies
abbrev pub Within : ℕ → ℤ → Type 0
Within r t = (neg_ℤ (pos (r * limit)) ≤ℤ t) × (t ≤ℤ pos (r * limit))

-- a number past the limit is no latency
abbrev pub reads : ℤ → Option ℤ
reads z = cond (int_le (neg_ℤ (pos limit)) z && int_le z (pos limit)) (Some z) None

abbrev pub below : ℤ → Bool
below z = int_lt z (pos 0)
