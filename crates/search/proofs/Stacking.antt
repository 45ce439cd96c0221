-- A chain of switches, one more at a time.
use Rattle.std.proofs.Common.{◌≡◌, ℕ, ◌+◌, ◌<◌, ◌≤◌, List, length, get_or, set, Some, sym, ap, ◌∙◌, subst, inl, inr, arith, get_or-set_other, get_or-set_same}
use Rattle.std.proofs.lemmas.Bool.{cases_eq}
use Rattle.network.specs.declared.Step.{Step}
use Rattle.network.specs.Graph.{Graph, end}
use Rattle.search.specs.Parents.{parents}
use Rattle.search.specs.Records.{On}
use Rattle.search.specs.Chain.{Chain}

pub chain_first : (g : Graph) (n : ℕ) (up stack : List ℕ) (v : ℕ) → On n v → 0 < length stack → Chain g n up (set stack 0 v) 0
chain_first g n up stack v o l =
    record { on = λ i h. let q : i ≡ 0 = omega arith in subst (On n) (sym (ap (λ j. get_or (set stack 0 v) j 0) q ∙ get_or-set_same stack 0 v 0 l)) o; above = λ i h. absurd (omega arith) }

module _ (g : Graph) (n : ℕ) (up stack : List ℕ) (top : ℕ) (C : Chain g n up stack top) (y : ℕ) (l : top + 1 < length stack) where
  keep : (i : ℕ) → i ≤ top → get_or (set stack (top + 1) y) i 0 ≡ get_or stack i 0
  keep i h = get_or-set_other stack (top + 1) i y 0 (λ e. omega arith)

  pub new_top : get_or (set stack (top + 1) y) (top + 1) 0 ≡ y
  new_top = get_or-set_same stack (top + 1) y 0 l

  pub same_first : (v : ℕ) → get_or stack 0 0 ≡ v → get_or (set stack (top + 1) y) 0 0 ≡ v
  same_first v e = keep 0 (omega arith) ∙ e

  pub chain_more : On n y → (s : Step) → parents up (get_or stack top 0) ≡ Some s → y ≡ end g s → Chain g n up (set stack (top + 1) y) (top + 1)
  chain_more o s e q =
      record {
        on = λ i h. elim (cases_eq i (top + 1)) [
          | inl p ↦ subst (On n) (sym (ap (λ j. get_or (set stack (top + 1) y) j 0) p ∙ new_top)) o
          | inr p ↦ subst (On n) (sym (keep i (omega arith))) (C.on i (omega arith))
        ];
        above = λ i h. elim (cases_eq i top) [
          | inl p ↦ (s, ap (parents up) (keep i (omega arith) ∙ ap (λ j. get_or stack j 0) p) ∙ e, sym q ∙ sym (ap (λ j. get_or (set stack (top + 1) y) (j + 1) 0) p ∙ new_top))
          | inr p ↦ let a = C.above i (omega arith) in (a.0, ap (parents up) (keep i (omega arith)) ∙ a.1, a.2 ∙ sym (keep (i + 1) (omega arith)))
        ];
      }
