-- A row that was filled with zeros.
use Rattle.std.proofs.Common.{◌≡◌, ℕ, List, get_or, replicate, ap, ◌∙◌, inl, inr, arith}
use lib.ListN.{get_or-replicate, length-replicate}
use Rattle.std.proofs.lemmas.List.{get_or_past}
use Rattle.std.proofs.lemmas.Bool.{cases_lt}

pub zeros : (n : ℕ) (row : List ℕ) → row ≡ replicate n 0 → (v : ℕ) → get_or row v 0 ≡ 0
zeros n row e v = ap (λ r. get_or r v 0) e ∙ elim (cases_lt v n) [ inl h ↦ get_or-replicate n v 0 0 h | inr h ↦ get_or_past (replicate n 0) v 0 (omega (arith, length-replicate {A = ℕ} n 0)) ]
