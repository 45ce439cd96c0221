-- Offsets given along the forest, one switch after another.
use Rattle.std.proofs.Common.{◌≡◌, ℕ, ◌+◌, ◌-◌, ◌*◌, ◌<◌, ◌≤◌, List, [], ◌∷◌, length, get_or, set, Some, None, sym, refl, ap, ◌∙◌, subst, inl, inr, arith, get_or-set_other, get_or-set_same}
use Rattle.std.proofs.lemmas.Bool.{cases_eq}
use Rattle.kind.specs.Meaning.{Meaning}
use Rattle.network.specs.declared.Step.{Step}
use Rattle.network.specs.Graph.{place, end}
use Rattle.network.specs.Climb.{Climb, Forest}
use Rattle.network.specs.Offsets.{tally}
use Rattle.network.proofs.Climb.{one_step}
use Rattle.network.proofs.Sums.{minus_zero}
use Rattle.search.specs.declared.link.Link.{Link as Record}
use Rattle.search.specs.Parents.{parents}
use Rattle.search.specs.Records.{graph_of, On}
use Rattle.search.specs.Settled.{worth, gap, Placed, Settled, Kept}
use Rattle.search.proofs.Wiring.{Wired}
use Rattle.search.proofs.Climbs.{climb_short}
use Rattle.search.proofs.Gaps.{onto}

module _ {L T : Type 0} (M : Meaning L T) (links : List (Record L)) (n : ℕ) (up marks : List ℕ) (row : List T) (big : (n ≤ length marks) × (n ≤ length row)) (S : Settled M links n up marks row) where
  module _ (w : ℕ) (o : On n w) (x : T) (ss : List Step) (r : ℕ) (c : Climb (graph_of links) (parents up) w ss r)
      (e : M.total x ≡ M.quantities.minus (tally M.quantities (gap M links) ss)) (h : M.within (2 * length ss) x) where
    there : (t : T) → get_or (set row (w - 1) x) (w - 1) t ≡ x
    there t = get_or-set_same row (w - 1) x t (omega (arith, o.0, o.1, big.1))

    placed : Placed M links up (set row (w - 1) x) w
    placed = (ss, r, c, λ t. (ap M.total (there t) ∙ e, subst (M.within (2 * length ss)) (sym (there t)) h))

    pub settled_more : Settled M links n up (set marks (w - 1) 1) (set row (w - 1) x)
    settled_more v a m =
        elim (cases_eq v w) [
          | inl q ↦ subst (Placed M links up (set row (w - 1) x)) (sym q) placed
          | inr q ↦
              let far : v - 1 ≡ w - 1 → ⊥ = λ d. q (omega (arith, o.0, a.0)) in
              let p = S v a (λ d. m (get_or-set_other marks (w - 1) (v - 1) 1 0 far ∙ d)) in
              (p.0, p.1, p.2, λ t. subst (λ y. (M.total y ≡ M.quantities.minus (tally M.quantities (gap M links) p.0)) × M.within (2 * length p.0) y) (sym (get_or-set_other row (w - 1) (v - 1) x t far)) (p.3 t))
        ]

  pub grounded : (w : ℕ) → On n w → parents up w ≡ None → (x : T) → M.total x ≡ M.quantities.zero → M.within 0 x → Settled M links n up (set marks (w - 1) 1) (set row (w - 1) x)
  grounded w o e x z h = settled_more w o x [] w (refl, e) (z ∙ sym (minus_zero M.quantities)) h

  module _ (k : ℕ) (small : n ≤ 1024) (z : Wired (graph_of links) k n) (f : Forest (graph_of links) k (parents up)) (w y : ℕ) (ow : On n w) (oy : On n y) (s : Step) (above : (s : Step) × (parents up w ≡ Some s) × (end (graph_of links) s ≡ y))
      (is : Some s ≡ parents up w) (known : get_or marks (y - 1) 0 ≡ 0 → ⊥) where
    step_is : above.0 ≡ s
    step_is = one_step (parents up w) above.0 s above.1 (sym is)

    pub step_low : (1 ≤ place s) × (place s ≤ k)
    step_low = let j = (f.points w above.0 above.1).1 in let q = ap place step_is in (omega (arith, j.0, q), omega (arith, j.1, q))

    pub handed : (d x : T) → ((i : ℕ) → M.within i (get_or row (y - 1) d) → i + 2 ≤ 16777216 → (M.total x ≡ M.quantities.plus (M.total (get_or row (y - 1) d)) (M.quantities.minus (worth M.quantities (gap M links) s))) × M.within (i + 2) x)
        → Settled M links n up (set marks (w - 1) 1) (set row (w - 1) x)
    handed d x h =
        let p = S y oy known in
        let short : length p.0 < n = climb_short (graph_of links) k n z (parents up) f.points y p.0 p.1 p.2 oy in
        let b = h (2 * length p.0) (p.3 d).1 (omega (arith, short, small)) in
        let size : 2 * length p.0 + 2 ≡ 2 * length (s ∷ p.0) = omega arith in
        settled_more w ow x (s ∷ p.0) p.1 (sym is, subst (λ q. Climb (graph_of links) (parents up) q p.0 p.1) (sym above.2 ∙ ap (end (graph_of links)) step_is) p.2)
        (b.0 ∙ onto M.quantities (gap M links) s p.0 (M.total (get_or row (y - 1) d)) (p.3 d).0)
        (subst (λ i. M.within i x) size b.1)

pub marked : (marks : List ℕ) (i : ℕ) → i < length marks → get_or (set marks i 1) i 0 ≡ 0 → ⊥
marked marks i l e = let q = get_or-set_same marks i 1 0 l in omega arith

pub mark_keeps : (marks : List ℕ) (i : ℕ) → i < length marks → Kept marks (set marks i 1)
mark_keeps marks i l u h e = elim (cases_eq u i) [ inl q ↦ marked marks i l (ap (λ j. get_or (set marks i 1) j 0) (sym q) ∙ e) | inr q ↦ h (sym (get_or-set_other marks i u 1 0 q) ∙ e) ]
