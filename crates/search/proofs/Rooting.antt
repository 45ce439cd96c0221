-- One more switch passed, of those whose lowest become roots.
use Rattle.std.proofs.Common.{◌≡◌, ℕ, ◌+◌, ◌-◌, ◌<◌, ◌≤◌, ◌⊎◌, List, length, get_or, set, None, sym, ap, ◌∙◌, subst, inl, inr, arith, get_or-set_other}
use Rattle.std.proofs.lemmas.Bool.{cases_eq}
use Rattle.network.specs.Graph.{Graph, Connected, Upto}
use Rattle.network.specs.Climb.{Forest}
use Rattle.search.specs.Parents.{parents}
use Rattle.search.specs.Records.{On}
use Rattle.search.specs.Joined.{label, Labelled}
use Rattle.search.specs.Rooted.{First, Rooted}
use Rattle.search.proofs.Settling.{marked, mark_keeps}

-- before the first switch
pub none_passed : (g : Graph) (k n : ℕ) (labels marks up : List ℕ) → Forest g k (parents up) → ((v : ℕ) → get_or marks v 0 ≡ 0) → Rooted g k n labels marks up 0
none_passed g k n labels marks up f z = record { forest = f; marked = λ v o h. absurd (omega (arith, o.0)); met = λ v o d. absurd (d (z (label labels v - 1))); roots = λ v o h. absurd (omega (arith, o.0.0)) }

-- the switch after the first m, whose label is a
module _ (g : Graph) (k n : ℕ) (labels marks up : List ℕ) (m : ℕ) (next : m < n) (R : Rooted g k n labels marks up m) (a : ℕ) (is : a ≡ get_or labels m 0) where
  here : On n (m + 1)
  here = (omega arith, omega arith)

  own : a ≡ label labels (m + 1)
  own = let q : m ≡ m + 1 - 1 = omega arith in is ∙ ap (λ x. get_or labels x 0) q

  split : (v : ℕ) → v ≤ m + 1 → (v ≡ m + 1) ⊎ (v ≤ m)
  split v h = elim (cases_eq v (m + 1)) [ inl e ↦ inl e | inr d ↦ inr (omega arith) ]

  -- its group was met
  pub passed : (get_or marks (a - 1) 0 ≡ 0 → ⊥) → Rooted g k n labels marks up (m + 1)
  passed d = record { forest = R.forest; marked = all; met = λ v o h. let w = R.met v o h in (w.0, w.1, omega (arith, w.2), w.3); roots = roots }
    where
      met_here : get_or marks (label labels (m + 1) - 1) 0 ≡ 0 → ⊥
      met_here = subst (λ y. get_or marks (y - 1) 0 ≡ 0 → ⊥) own d

      all : (v : ℕ) → On n v → v ≤ m + 1 → get_or marks (label labels v - 1) 0 ≡ 0 → ⊥
      all v o h z = elim (split v h) [ inl e ↦ met_here (ap (λ u. get_or marks (label labels u - 1) 0) (sym e) ∙ z) | inr l ↦ R.marked v o l z ]

      roots : (v : ℕ) → First n labels v → v ≤ m + 1 → parents up v ≡ None
      roots v f h =
          elim (split v h) [
            | inl e ↦ (let w = R.met (m + 1) here met_here in absurd (omega (arith, f.1 w.0 w.1 (w.3 ∙ ap (label labels) (sym e)), w.2)))
            | inr l ↦ R.roots v f l
          ]

  module _ (inside : (v : ℕ) → On n v → On n (label labels v)) (size : n ≤ length marks) where
    pub room : (1 ≤ a) × (a - 1 < length marks)
    room = let o = subst (On n) (sym own) (inside (m + 1) here) in (o.0, omega (arith, o.0, o.1))

    -- its group was not met: it is the lowest there
    pub met_first : Labelled g k n (label labels) → get_or marks (a - 1) 0 ≡ 0 → (up' : List ℕ) → Forest g k (parents up') → parents up' (m + 1) ≡ None → ((v : ℕ) → (Connected g (Upto k) (m + 1) v → ⊥) → parents up' v ≡ parents up v) → Rooted g k n labels (set marks (a - 1) 1) up' (m + 1)
    met_first l z up' f root others = record { forest = f; marked = all; met = met; roots = roots }
      where
        all : (v : ℕ) → On n v → v ≤ m + 1 → get_or (set marks (a - 1) 1) (label labels v - 1) 0 ≡ 0 → ⊥
        all v o h q =
            elim (split v h) [
              | inl e ↦ marked marks (a - 1) room.1 (ap (λ y. get_or (set marks (a - 1) 1) (y - 1) 0) (own ∙ ap (label labels) (sym e)) ∙ q)
              | inr s ↦ mark_keeps marks (a - 1) room.1 (label labels v - 1) (R.marked v o s) q
            ]

        met : (v : ℕ) → On n v → (get_or (set marks (a - 1) 1) (label labels v - 1) 0 ≡ 0 → ⊥) → (u : ℕ) × On n u × (u ≤ m + 1) × (label labels u ≡ label labels v)
        met v o d =
            elim (cases_eq (label labels v - 1) (a - 1)) [
              | inl e ↦ (m + 1, here, omega arith, sym own ∙ (let x = inside v o in omega (arith, x.0, room.0, e)))
              | inr e ↦ (let w = R.met v o (λ q. d (get_or-set_other marks (a - 1) (label labels v - 1) 1 0 e ∙ q)) in (w.0, w.1, omega (arith, w.2), w.3))
            ]

        roots : (v : ℕ) → First n labels v → v ≤ m + 1 → parents up' v ≡ None
        roots v p h =
            elim (split v h) [
              | inl e ↦ ap (parents up') e ∙ root
              | inr s ↦ others v (λ c. R.marked v p.0 s (ap (λ y. get_or marks (y - 1) 0) (sym (own ∙ (l (m + 1) v here p.0).1 c)) ∙ z)) ∙ R.roots v p s
            ]
