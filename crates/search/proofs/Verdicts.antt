-- From labels, forest and offsets to what holds of the links.
use Rattle.std.proofs.Common.{◌≡◌, ℕ, suc, ◌-◌, ◌*◌, ◌<◌, ◌≤◌, List, [], ◌∷◌, ◌++◌, map, length, get_or, None, sym, refl, ap, ◌∙◌, subst, append-nil, arith}
use native.Mathlib.Decide.{dec_le}
use Rattle.std.proofs.lemmas.List.{get_or-map, length-map}
use Rattle.kind.specs.Group.{Quantities}
use Rattle.kind.specs.Meaning.{Meaning}
use Rattle.network.specs.declared.Step.{Step}
use Rattle.network.specs.Graph.{Connected, Upto, Joining, Path}
use Rattle.network.specs.Climb.{Climb, Forest}
use Rattle.network.specs.Offsets.{Link, tally, at, graph, Positions, Carried, Carries, Fits}
use Rattle.network.specs.Theorems.{Linked, Joins}
use Rattle.network.proofs.Sums.{sums}
use Rattle.network.proofs.Climb.{one_climb}
use Rattle.network.proofs.Growth.{found}
use Rattle.network.proofs.Potential.{potential, potential_moves}
use Rattle.network.proofs.Lists.{theory, at_old, at_new, longer, moves_carried}
use Rattle.search.specs.declared.link.Link.{Link as Record}
use Rattle.search.specs.Parents.{parents}
use Rattle.search.specs.Records.{link_of, graph_of, On}
use Rattle.search.specs.Joined.{label, Joined}
use Rattle.search.specs.Settled.{gap, Placed, offset, Reached}
use Rattle.search.specs.Written.{Climbed}
use Rattle.search.specs.Verdict.{Shown}
use Rattle.search.proofs.Wiring.{Wired, some, one_graph, from_at, to_at}
use Rattle.search.proofs.Climbs.{climb_short}
use Rattle.search.proofs.Ways.{nothing}

module _ (K : Quantities) (links : List (Link K.Q)) (new : Link K.Q) where
  pub fits_more : (c : ℕ → K.Q) → Carries K c links → Carried K c new → Fits K (links ++ new ∷ [])
  fits_more c h e = (c, λ p u. go p u (dec_le p (length links)))
    where
      go : (p : ℕ) → Positions K (links ++ new ∷ []) p → Dec (p ≤ length links) → Carried K c (at K (links ++ new ∷ []) p)
      go p u (yes l) = subst (Carried K c) (at_old K links new p (u.0, l)) (h p (u.0, l))
      go p u (no l) = let q : suc (length links) ≡ p = omega (arith, u.1, longer K links new) in subst (λ p. Carried K c (at K (links ++ new ∷ []) p)) q (subst (Carried K c) (sym (at_new K links new)) e)

  pub old_carried : (c : ℕ → K.Q) → Carries K c (links ++ new ∷ []) → Carries K c links
  old_carried c m p u = subst (Carried K c) (sym (at_old K links new p u)) (m p (u.0, omega (arith, u.1, longer K links new)))

  pub fits_old : Fits K (links ++ new ∷ []) → Fits K links
  fits_old (c, m) = (c, old_carried c m)

  regroup : (m x y : K.Q) → K.plus (K.plus m x) (K.minus y) ≡ K.plus m (K.plus x (K.minus y))
  regroup m x y = simp sums

  -- offsets that carry the old links carry the new one if any do, and its ends are connected
  pub near_carried : (c : ℕ → K.Q) → Carries K c links → Linked K links new.from new.to → Fits K (links ++ new ∷ []) → Carried K c new
  near_carried c h l (b, m) =
      let e : Carried K b new = subst (Carried K b) (at_new K links new) (m (suc (length links)) (omega arith, omega (arith, longer K links new))) in
      let s = (theory K links).known c b h (old_carried b m) new.from new.to l in
      e ∙ regroup new.measured (b new.to) (b new.from) ∙ ap (K.plus new.measured) (sym s) ∙ sym (regroup new.measured (c new.to) (c new.from))

module _ {L T : Type 0} (M : Meaning L T) (links : List (Record L)) where
  pub to_linked : (i j : ℕ) → Connected (graph_of links) (Upto (length links)) i j → Linked M.quantities (map (link_of M) links) i j
  to_linked i j c = subst (λ g. Connected g (Upto (length (map (link_of M) links))) i j) (one_graph M links) (subst (λ k. Connected (graph_of links) (Upto k) i j) (sym (length-map links (link_of M))) c)

  pub of_linked : (i j : ℕ) → Linked M.quantities (map (link_of M) links) i j → Connected (graph_of links) (Upto (length links)) i j
  of_linked i j c = subst (λ k. Connected (graph_of links) (Upto k) i j) (length-map links (link_of M)) (subst (λ g. Connected g (Upto (length (map (link_of M) links))) i j) (sym (one_graph M links)) c)

  pub to_path : (i j : ℕ) (ss : List Step) → Path (graph_of links) (Joining (graph_of links) (length links)) i ss j → Path (graph M.quantities (map (link_of M) links)) (Joins M.quantities (map (link_of M) links)) i ss j
  to_path i j ss c = subst (λ g. Path g (Joining g (length (map (link_of M) links))) i ss j) (one_graph M links) (subst (λ k. Path (graph_of links) (Joining (graph_of links) k) i ss j) (sym (length-map links (link_of M))) c)

  of_joins : (p : ℕ) → Joins M.quantities (map (link_of M) links) p → Joining (graph_of links) (length links) p
  of_joins p c = subst (λ k. Joining (graph_of links) k p) (length-map links (link_of M)) (subst (λ g. Joining g (length (map (link_of M) links)) p) (sym (one_graph M links)) c)

  module _ (n : ℕ) (up : List ℕ) (row : List T) (z : Wired (graph_of links) (length links) n) (f : Forest (graph_of links) (length links) (parents up)) (placed : (v : ℕ) → On n v → Placed M links up row v) where
    pub reached : n ≤ 1024 → Reached M n row
    reached small v o t =
        let p = placed v o in
        let short : length p.0 < n = climb_short (graph_of links) (length links) n z (parents up) f.points v p.0 p.1 p.2 o in
        M.wider (2 * length p.0) 2048 (get_or row (v - 1) t) (omega arith) (p.3 t).1

    pot : ℕ → M.quantities.Q
    pot = potential M.quantities (graph_of links) (gap M links) (length links) (parents up) f

    offset_is : n ≤ length row → (v : ℕ) → On n v → offset M row v ≡ pot v
    unfolding pot
    offset_is size v o =
        let t = some row (omega (arith, o.0, o.1)) in
        let p = placed v o in
        let c = f.climbs v in
        get_or-map M.total row (v - 1) t M.quantities.zero (omega (arith, o.0, o.1)) ∙ (p.3 t).0 ∙ ap (λ ss. M.quantities.minus (tally M.quantities (gap M links) ss)) (one_climb (graph_of links) (parents up) v p.0 p.1 c.0 c.1 p.2 c.2).0

    pub fits_carries : n ≤ length row → Fits M.quantities (map (link_of M) links) → Carries M.quantities (offset M row) (map (link_of M) links)
    unfolding pot
    fits_carries size h = (theory M.quantities (map (link_of M) links)).joining_suffice h (offset M row) (λ p j. carried p (of_joins p j))
      where
        carried : (p : ℕ) → Joining (graph_of links) (length links) p → Carried M.quantities (offset M row) (at M.quantities (map (link_of M) links) p)
        carried p j =
            let w = z p j.0 j.1 in
            let e : offset M row ((graph_of links).to p) ≡ M.quantities.plus (offset M row ((graph_of links).from p)) (gap M links p) =
            offset_is size ((graph_of links).to p) w.1 ∙ potential_moves M.quantities (graph_of links) (gap M links) (length links) (parents up) f p j ∙ ap (λ x. M.quantities.plus x (gap M links p)) (sym (offset_is size ((graph_of links).from p) w.0)) in
            moves_carried M.quantities (offset M row) (at M.quantities (map (link_of M) links) p) (ap (offset M row) (sym (to_at M links p)) ∙ e ∙ ap (λ v. M.quantities.plus (offset M row v) (gap M links p)) (from_at M links p))

  module _ (n : ℕ) (labels up : List ℕ) (J : Joined (graph_of links) (length links) n labels up) (l : Record L) (of : On n l.from) (ot : On n l.to) where
    pub near : label labels l.from ≡ label labels l.to → Linked M.quantities (map (link_of M) links) l.from l.to
    near e = to_linked l.from l.to ((J.labelled l.from l.to of ot).0 e)

    pub near_back : label labels l.from ≡ label labels l.to → Linked M.quantities (map (link_of M) links) l.to l.from
    near_back e = to_linked l.to l.from ((J.labelled l.to l.from ot of).0 (sym e))

    pub not_near : (label labels l.from ≡ label labels l.to → ⊥) → Linked M.quantities (map (link_of M) links) l.from l.to → ⊥
    not_near n c = n ((J.labelled l.from l.to of ot).1 (of_linked l.from l.to c))

    pub not_near_back : (label labels l.from ≡ label labels l.to → ⊥) → Linked M.quantities (map (link_of M) links) l.to l.from → ⊥
    not_near_back n c = n (sym ((J.labelled l.to l.from ot of).1 (of_linked l.to l.from c)))

    pub shown_none : (label labels l.from ≡ label labels l.to → ⊥) → (row : List ℕ) → Shown M.quantities (map (link_of M) links) (link_of M l) row row 0
    shown_none n row = ([], ((λ c. absurd (not_near_back n c)), λ c. refl), nothing row)

    pub shown_way : label labels l.from ≡ label labels l.to → (up' row row' : List ℕ) (m : ℕ) → Forest (graph_of links) (length links) (parents up') → parents up' l.from ≡ None → Climbed (graph_of links) up' l.to row row' m → Shown M.quantities (map (link_of M) links) (link_of M l) row row' m
    shown_way e up' row row' m f r (ss, x, c, w) = (
      ss,
      (
        (λ h. to_path l.to l.from ss (found (graph_of links) (length links) (parents up') f l.from l.to r ((J.labelled l.from l.to of ot).0 e) ss x (subst (λ ts. Climb (graph_of links) (parents up') l.to ts x) (sym (append-nil ss)) c))),
        λ h. absurd (h (near_back e)),
      ),
      w,
    )
