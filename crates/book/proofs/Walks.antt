-- A walk that grows by one word.
use Rattle.std.proofs.Common.{◌≡◌, ℕ, zero, suc, ◌+◌, ◌-◌, ◌<◌, ◌≤◌, List, [], ◌∷◌, ◌++◌, length, get_or, sym, refl, ap, ◌∙◌, subst, arith}
use lib.ListN.{length-map}
use Rattle.std.proofs.lemmas.List.{length-take-le, length_push, get_or-map}
use Rattle.kind.specs.Meaning.{Meaning}
use Rattle.network.specs.Graph.{Upto, place, start, end}
use Rattle.network.specs.Offsets.{tally}
use Rattle.network.specs.declared.Step.{Step}
use Rattle.network.specs.declared.Step.TheVariants.{Forward, Backward}
use Rattle.search.specs.declared.link.Link.{Link}
use Rattle.book.specs.declared.store.Store.{Store}
use Rattle.book.specs.declared.trip.Trip.{Trip}
use Rattle.calls.specs.State.{State}
use Rattle.calls.specs.Standing.{link, Standing, plan, Reads, ReadAs}
use Rattle.search.specs.Records.{link_of}
use Rattle.book.specs.Memory.{state_of, records, Held}
use Rattle.book.specs.Walking.{signed, near, far, Walked}

module _ {L T : Type 0} (M : Meaning L T) where
  abbrev Q : Type 0
  Q = M.quantities.Q

  -- positions of standing links, as numbers up to the count
  pub stands_upto : (s : Store L) → s.count ≤ length s.links.now → (p : ℕ) → Upto s.count p → Standing M.quantities (state_of M s) p
  stands_upto s h p u =
      let a = length-map (records s) (link_of M) in
      let b = length-take-le s.count s.links.now h in
      (u.0, omega (arith, u.1))

  pub standing_count : (s : Store L) → s.count ≤ length s.links.now → length (state_of M s).links ≡ s.count
  standing_count s h = length-map (records s) (link_of M) ∙ length-take-le s.count s.links.now h

  pub upto_stands : (s : Store L) → s.count ≤ length s.links.now → (p : ℕ) → Standing M.quantities (state_of M s) p → Upto s.count p
  upto_stands s h p u =
      let a = length-map (records s) (link_of M) in
      let b = length-take-le s.count s.links.now h in
      (u.0, omega (arith, u.1))

  pub few_links : (s : Store L) → Held s → length (state_of M s).links ≤ 8192
  few_links s h = omega (arith, standing_count s h.0, h.1)

  -- the record at a position means the link there
  pub link_is : (s : Store L) (p : ℕ) → Standing M.quantities (state_of M s) p → (r : Link L) → ((d : Link L) → r ≡ get_or (records s) (p - 1) d) → link M.quantities (state_of M s) p ≡ link_of M r
  link_is s zero u r h = absurd (omega (arith, u.0))
  link_is s (suc k) u r h =
      let a = length-map (records s) (link_of M) in
      let lt : k < length (records s) = omega (arith, u.1) in
      let e : suc k - 1 ≡ k = omega arith in
      get_or-map (link_of M) (records s) k r _ lt ∙ ap (link_of M) (sym (h r ∙ ap (λ z. get_or (records s) z r) e))

  pub near_is : (s : State Q) (st : Step) (r : Link L) → link M.quantities s (place st) ≡ link_of M r → near st r ≡ start (plan M.quantities s) st
  near_is s (Forward p) r e = sym (ap (λ z. z.from) e)
  near_is s (Backward p) r e = sym (ap (λ z. z.to) e)

  pub far_is : (s : State Q) (st : Step) (r : Link L) → link M.quantities s (place st) ≡ link_of M r → far st r ≡ end (plan M.quantities s) st
  far_is s (Forward p) r e = sym (ap (λ z. z.to) e)
  far_is s (Backward p) r e = sym (ap (λ z. z.from) e)

  tally-push : (f : ℕ → Q) (ss : List Step) (st : Step) → tally M.quantities f (ss ++ st ∷ []) ≡ M.quantities.plus (tally M.quantities f ss) (signed M.quantities st (f (place st)))
  tally-push f [] (Forward p) = M.quantities.laws.comm (f p) M.quantities.zero
  tally-push f [] (Backward p) = M.quantities.laws.comm (M.quantities.minus (f p)) M.quantities.zero
  tally-push f (Forward q ∷ ss) st = ap (M.quantities.plus (f q)) (tally-push f ss st) ∙ sym (M.quantities.laws.assoc (f q) (tally M.quantities f ss) (signed M.quantities st (f (place st))))
  tally-push f (Backward q ∷ ss) st = ap (M.quantities.plus (M.quantities.minus (f q))) (tally-push f ss st) ∙ sym (M.quantities.laws.assoc (M.quantities.minus (f q)) (tally M.quantities f ss) (signed M.quantities st (f (place st))))

  module _ (s : State M.quantities.Q) where
    read-push : (ws : List ℕ) (i : ℕ) (ss : List Step) (j w : ℕ) (st : Step) → ReadAs M.quantities s ws i ss j → Reads M.quantities s w st → start (plan M.quantities s) st ≡ j
        → ReadAs M.quantities s (ws ++ w ∷ []) i (ss ++ st ∷ []) (end (plan M.quantities s) st)
    read-push [] i [] j w st e r b = (r, b ∙ sym e, refl)
    read-push [] i (x ∷ ss) j w st e r b = absurd e
    read-push (v ∷ ws) i [] j w st e r b = absurd e
    read-push (v ∷ ws) i (x ∷ ss) j w st e r b = (e.0, e.1, read-push ws (end (plan M.quantities s) x) ss j w st e.2 r b)

    begin : (ws : List ℕ) (i : ℕ) (ss : List Step) (j m : ℕ) → ReadAs M.quantities s ws i ss j → (1 ≤ length ws → m ≡ j) → (f : ℕ) × ReadAs M.quantities s ws f ss m
    begin [] i [] j m e h = (m, refl)
    begin [] i (x ∷ ss) j m e h = absurd e
    begin (w ∷ ws) i ss j m e h = (i, subst (λ z. ReadAs M.quantities s (w ∷ ws) i ss z) (sym (h (omega arith))) e)

    pub walk_on : (ws : List ℕ) (w : ℕ) (st : Step) (x y : Trip T) → Walked M s ws x → Reads M.quantities s w st → (1 ≤ length ws → start (plan M.quantities s) st ≡ x.at)
        → y.at ≡ end (plan M.quantities s) st
        → M.total y.measured ≡ M.quantities.plus (M.total x.measured) (signed M.quantities st (link M.quantities s (place st)).measured)
        → M.total y.wanted ≡ M.quantities.plus (M.total x.wanted) (signed M.quantities st (link M.quantities s (place st)).wanted)
        → M.within (length ws + 1) y.measured → M.within (length ws + 1) y.wanted → Walked M s (ws ++ w ∷ []) y
    walk_on ws w st x y k r b e m n l h =
        let a = begin ws k.first k.steps x.at (start (plan M.quantities s) st) k.read b in
        let len = length_push ws w in
        record {
          first = a.0;
          steps = k.steps ++ st ∷ [];
          read = subst (λ z. ReadAs M.quantities s (ws ++ w ∷ []) a.0 (k.steps ++ st ∷ []) z) (sym e) (read-push ws a.0 k.steps (start (plan M.quantities s) st) w st a.1 r refl);
          measures = m ∙ ap (λ z. M.quantities.plus z (signed M.quantities st (link M.quantities s (place st)).measured)) k.measures ∙ sym (tally-push (λ p. (link M.quantities s p).measured) k.steps st);
          wants = n ∙ ap (λ z. M.quantities.plus z (signed M.quantities st (link M.quantities s (place st)).wanted)) k.wants ∙ sym (tally-push (λ p. (link M.quantities s p).wanted) k.steps st);
          low = subst (λ z. M.within z y.measured) (sym len) l;
          high = subst (λ z. M.within z y.wanted) (sym len) h;
        }
