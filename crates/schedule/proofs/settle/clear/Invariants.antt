use Rattle.std.proofs.Common.{◌≡◌, ℕ, ◌<◌, get_or}
use Rattle.schedule.proofs.settle.clear.Given as goal

abbrev pub invariant-loop-total : goal.invariant-loop-total
invariant-loop-total g l = (v : ℕ) (d : g.row.K-Total.Denot) → v < l.total-index → (g.K.Kind.meaning.total (get_or l.total-items v d) ≡ g.K.Kind.meaning.quantities.zero) × g.K.Kind.meaning.within 0 (get_or l.total-items v d)
