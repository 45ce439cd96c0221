-- What the latencies and totals of a kind mean, and how far a total reaches.
use Rattle.std.specs.Prelude.{◌≡◌, ℕ, ◌≤◌, Bool, true, false, List, ℤ, Some, Option}
use Rattle.kind.specs.Group.{Quantities}
use Rattle.kind.specs.Order.{Ordered}

pub record Meaning (L T : Type 0) : Type 1 where
  pub quantities : Quantities
  -- whether the kind has an order, and which quantities are below zero: none where it has none
  pub ordered : Bool
  pub below : quantities.Q → Bool
  pub order : ordered ≡ true → Ordered quantities below
  pub flat : ordered ≡ false → (x : quantities.Q) → below x ≡ false
  -- the quantity of each latency and of each total
  pub latency : L → quantities.Q
  pub total : T → quantities.Q
  -- the totals within each reach
  pub within : ℕ → T → Type 0
  pub wider : (i j : ℕ) (t : T) → i ≤ j → within i t → within j t
  -- the quantity of the latency that a number makes; none where the number is out of the kind's range
  pub reads : ℤ → Option quantities.Q
  -- whatever a latency stores, it means a quantity of the range
  pub ranged : (l : L) → (z : ℤ) × (reads z ≡ Some (latency l))
  -- the bytes that a quantity is printed as
  pub text : quantities.Q → List ℕ
