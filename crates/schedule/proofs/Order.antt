-- The order of quantities: x is less than y where x − y is below zero, and at most y where y − x is not.
use Rattle.std.proofs.Common.{◌≡◌, Bool, true, false, ◌⊎◌, sym, ap, ◌∙◌, subst, inl, inr, ⊎_elim}
use Rattle.std.proofs.lemmas.Bool.{both_ways, cases_Bool}
use Rattle.kind.specs.Group.{Quantities}
use Rattle.kind.specs.Order.{Ordered}
use Rattle.network.proofs.Sums as S

module _ {K : Quantities} {below : K.Q → Bool} (O : Ordered K below) where
  open K use {Q, zero, plus, minus}

  abbrev Lt : Q → Q → Type 0
  Lt x y = below (plus x (minus y)) ≡ true

  abbrev Le : Q → Q → Type 0
  Le x y = below (plus y (minus x)) ≡ false

  -- both sides may be moved alike
  shifted : (m x y : Q) → plus (plus m x) (minus (plus m y)) ≡ plus x (minus y)
  shifted m x y = simp (S.sums)

  crossed : (x y z : Q) → plus (plus z (minus y)) (plus y (minus x)) ≡ plus z (minus x)
  crossed x y z = simp (S.sums)

  turned : (x y : Q) → plus y (minus x) ≡ minus (plus x (minus y))
  turned x y = simp (S.sums)

  pub le_eq : (x y : Q) → x ≡ y → Le x y
  le_eq x y e = subst (λ z. Le x z) e (ap below (S.inv K x) ∙ O.level)

  pub le_trans : (x y z : Q) → Le x y → Le y z → Le x z
  le_trans x y z p q = ap below (sym (crossed x y z)) ∙ O.sums (plus z (minus y)) (plus y (minus x)) q p

  pub lt_le : (x y : Q) → Lt x y → Le x y
  lt_le x y p = ap below (turned x y) ∙ O.turned (plus x (minus y)) p

  pub clash : (x y : Q) → Le x y → Lt y x → ⊥
  clash x y p q = both_ways (below (plus y (minus x))) p q

  le_or_lt : (x y : Q) → Le x y ⊎ Lt y x
  le_or_lt x y = ⊎_elim inr inl (cases_Bool (below (plus y (minus x))))

  pub lt_le_trans : (x y z : Q) → Lt x y → Le y z → Lt x z
  lt_le_trans x y z p q = ⊎_elim (λ r. absurd (clash y x (le_trans y z x q r) p)) (λ r. r) (le_or_lt z x)

  pub le_lt_trans : (x y z : Q) → Le x y → Lt y z → Lt x z
  le_lt_trans x y z p q = ⊎_elim (λ r. absurd (clash z y (le_trans z x y r p) q)) (λ r. r) (le_or_lt z x)

  pub le_shift : (m x y : Q) → Le x y → Le (plus m x) (plus m y)
  le_shift m x y p = ap below (shifted m y x) ∙ p

  pub le_unshift : (m x y : Q) → Le (plus m x) (plus m y) → Le x y
  le_unshift m x y p = ap below (sym (shifted m y x)) ∙ p

  pub lt_shift : (m x y : Q) → Lt x y → Lt (plus m x) (plus m y)
  lt_shift m x y p = ap below (shifted m x y) ∙ p

  pub lt_unshift : (m x y : Q) → Lt (plus m x) (plus m y) → Lt x y
  lt_unshift m x y p = ap below (sym (shifted m x y)) ∙ p

  -- against zero the order is the test
  less_zero : (x : Q) → plus x (minus zero) ≡ x
  less_zero x = simp (S.sums)

  pub le_zero : (x : Q) → below x ≡ false → Le zero x
  le_zero x p = ap below (less_zero x) ∙ p

  pub zero_le : (x : Q) → Le zero x → below x ≡ false
  zero_le x p = ap below (sym (less_zero x)) ∙ p

  alone : (t x : Q) → plus (plus t x) (minus x) ≡ t
  alone t x = simp (S.sums)

  pub lt_alone : (t x : Q) → Lt (plus t x) x → below t ≡ true
  lt_alone t x p = ap below (sym (alone t x)) ∙ p

  pub le_alone : (t x : Q) → Le x (plus t x) → below t ≡ false
  le_alone t x p = ap below (sym (alone t x)) ∙ p
