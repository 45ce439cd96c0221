-- Offsets read off a forest, as differences to its roots.
use Rattle.std.proofs.Common.{◌≡◌, ℕ, ◌-◌, ◌*◌, ◌<◌, ◌≤◌, List, [], map, length, get_or, None, Ok, sym, refl, ap, ◌∙◌, subst, arith}
use Rattle.std.proofs.lemmas.List.{get_or-map}
use Rattle.kind.specs.Group.{Quantities}
use Rattle.kind.specs.Meaning.{Meaning}
use Rattle.network.specs.Climb.{Forest}
use Rattle.network.specs.Offsets.{tally, Carries}
use Rattle.network.specs.Theorems.{Linked}
use Rattle.network.proofs.Sums.{sums, minus_zero}
use Rattle.network.proofs.Climb.{one_climb}
use Rattle.network.proofs.Lists.{theory}
use Rattle.search.specs.declared.link.Link.{Link as Record}
use Rattle.search.specs.Parents.{parents}
use Rattle.search.specs.Records.{link_of, graph_of, On}
use Rattle.search.specs.Joined.{label, Labelled}
use Rattle.search.specs.Settled.{gap, Placed, offset, Reached}
use Rattle.search.specs.Rooted.{First}
use Rattle.search.specs.Known.{Tells, Grounded}
use Rattle.search.proofs.Wiring.{Wired, some}
use Rattle.search.proofs.Climbs.{climb_short}
use Rattle.search.proofs.Verdicts.{to_linked}

less_zero : (K : Quantities) (x y : K.Q) → y ≡ K.zero → K.plus x (K.minus y) ≡ x
less_zero K x y e = ap (λ z. K.plus x (K.minus z)) e ∙ simp sums

module _ {L T : Type 0} (M : Meaning L T) (links : List (Record L)) (n : ℕ) (up : List ℕ) (row : List T) (size : n ≤ length row) (placed : (v : ℕ) → On n v → Placed M links up row v) where
  read : (v : ℕ) → On n v → (t : T) → offset M row v ≡ M.total (get_or row (v - 1) t)
  read v o t = get_or-map M.total row (v - 1) t M.quantities.zero (omega (arith, o.0, o.1))

  -- a root's offset is zero
  pub root_zero : (v : ℕ) → On n v → parents up v ≡ None → offset M row v ≡ M.quantities.zero
  root_zero v o e =
      let t = some row (omega (arith, o.0, o.1)) in
      let p = placed v o in
      let none = (one_climb (graph_of links) (parents up) v p.0 p.1 [] v p.2 (refl, e)).0 in
      read v o t ∙ (p.3 t).0 ∙ ap (λ ss. M.quantities.minus (tally M.quantities (gap M links) ss)) none ∙ minus_zero M.quantities

  -- what stands at j is the difference to the root i
  pub told : Wired (graph_of links) (length links) n → Forest (graph_of links) (length links) (parents up) → Carries M.quantities (offset M row) (map (link_of M) links) → (i j : ℕ) → On n i → On n j → parents up i ≡ None → Linked M.quantities (map (link_of M) links) i j → (t : T) → t ≡ get_or row (j - 1) t → Tells M links n i j (Ok t)
  told z f h i j oi oj e l t is =
      let p = placed j oj in
      let short : length p.0 < n = climb_short (graph_of links) (length links) n z (parents up) f.points j p.0 p.1 p.2 oj in
      let x : offset M row j ≡ M.total t = read j oj t ∙ ap M.total (sym is) in (
        (offset M row, h),
        l,
        (λ c m. (theory M.quantities (map (link_of M) links)).known c (offset M row) m h i j l ∙ less_zero M.quantities (offset M row j) (offset M row i) (root_zero i oi e) ∙ x),
        M.wider (2 * length p.0) (2 * (n - 1)) t (omega arith) (subst (M.within (2 * length p.0)) (sym is) (p.3 t).1),
      )

  -- with every group's root at its lowest switch
  pub all_grounded : (labels : List ℕ) → Labelled (graph_of links) (length links) n (label labels) → ((v : ℕ) → First n labels v → parents up v ≡ None) → Carries M.quantities (offset M row) (map (link_of M) links) → Reached M n row → Grounded M links n row
  all_grounded labels l roots h near = (
    h,
    (λ v o low. root_zero v o (roots v (o, λ u w e. low u w.0 (to_linked M links v u ((l v u o w).0 (sym e)))))),
    λ v o t. M.wider 2048 16777216 (get_or row (v - 1) t) (omega arith) (near v o t),
  )
