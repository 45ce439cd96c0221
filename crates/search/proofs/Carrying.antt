-- A link tested against a row of offsets.
use Rattle.std.proofs.Common.{◌≡◌, ℕ, ◌+◌, ◌-◌, ◌≤◌, List, map, length, get_or, sym, ap, ◌∙◌, subst, arith}
use Rattle.std.proofs.lemmas.List.{get_or-map}
use Rattle.kind.specs.Group.{Quantities}
use Rattle.kind.specs.Meaning.{Meaning}
use Rattle.network.proofs.Sums.{sums}
use Rattle.search.specs.Records.{On}
use Rattle.search.specs.Settled.{offset, Reached}

pub apart : (K : Quantities) (w m x y : K.Q) → K.plus w x ≡ K.plus m y → w ≡ K.plus (K.plus m y) (K.minus x)
apart K w m x y e = sym (undone w x) ∙ ap (λ z. K.plus z (K.minus x)) e
  where
    undone : (w x : K.Q) → K.plus (K.plus w x) (K.minus x) ≡ w
    undone w x = simp sums

pub level : (K : Quantities) (w m x y : K.Q) → w ≡ K.plus (K.plus m y) (K.minus x) → K.plus w x ≡ K.plus m y
level K w m x y e = ap (λ z. K.plus z x) e ∙ done (K.plus m y) x
  where
    done : (z x : K.Q) → K.plus (K.plus z (K.minus x)) x ≡ z
    done z x = simp sums

module _ {L T : Type 0} (M : Meaning L T) (row : List T) (n : ℕ) (size : n ≤ length row) (near : Reached M n row) where
  -- a latency and a switch's offset
  pub side : (v : ℕ) → On n v → (x : T) → x ≡ get_or row (v - 1) x → (a s : T) (q : M.quantities.Q) → (M.total a ≡ q) × M.within 1 a
      → ((i j : ℕ) → M.within i a → M.within j x → i + j ≤ 16777216 → (M.total s ≡ M.quantities.plus (M.total a) (M.total x)) × M.within (i + j) s)
      → (M.total s ≡ M.quantities.plus q (offset M row v)) × M.within 16777216 s
  side v o x e a s q (p, w) h =
      let at : get_or (map M.total row) (v - 1) M.quantities.zero ≡ M.total x = get_or-map M.total row (v - 1) x M.quantities.zero (omega (arith, o.0, o.1)) ∙ ap M.total (sym e) in
      let r = h 1 2048 w (subst (M.within 2048) (sym e) (near v o x)) (omega arith) in
      (r.0 ∙ ap (λ z. M.quantities.plus z (M.total x)) p ∙ ap (M.quantities.plus q) (sym at), M.wider (1 + 2048) 16777216 s (omega arith) r.1)
