-- Links followed back round a circle are a loop below zero, which no offsets allow.
use Rattle.std.proofs.Common.{◌≡◌, ℕ, zero, suc, ◌+◌, ◌<◌, ◌≤◌, ◌⊎◌, List, [], ◌∷◌, length, sym, refl, ap, ◌∙◌, subst, inl, inr, suc-add, zero-add, arith}
use Rattle.std.specs.List.{AllByRecursion}
use Rattle.std.proofs.lemmas.Bool.{both_ways}
use Rattle.kind.specs.Group.{Quantities}
use Rattle.kind.specs.Order.{Ordered}
use Rattle.kind.specs.Meaning.{Meaning}
use Rattle.network.specs.declared.Step.{Step}
use Rattle.network.specs.declared.Step.TheVariants.{Forward, Backward}
use Rattle.network.specs.Graph.{Graph, Walk, Distinct, Upto}
use Rattle.network.specs.Offsets.{Link, tally, at, graph, Positions}
use Rattle.network.proofs.Sums.{assoc, left}
use Rattle.search.specs.Records.{On}
use Rattle.search.proofs.Wiring.{Wired}
use Rattle.schedule.specs.Least.{Onward, ends, Leaves, NegativeLoop}
use Rattle.schedule.specs.Rounds.{State, Less, AtMost, Led, After, back, trail}
use Rattle.schedule.specs.Rows.{Traced, Circle}
use Rattle.schedule.proofs.Order.{le_eq, le_trans, lt_le, lt_le_trans, le_shift, lt_shift, lt_alone, le_alone}

module _ (g : Graph) (pred : ℕ → ℕ) where
  pub back_add : (v a i : ℕ) → back g pred (back g pred v a) i ≡ back g pred v (i + a)
  back_add v a zero = ap (back g pred v) (sym (zero-add a))
  back_add v a (suc i) = ap (λ x. g.from (pred x)) (back_add v a i) ∙ ap (back g pred v) (sym (suc-add i a))

  pub trail_length : (v t : ℕ) → length (trail g pred v t) ≡ t
  trail_length v zero = refl
  trail_length v (suc t) = ap suc (trail_length v t)

  -- round a circle there is always one more
  pub round_traced : (count n v u m : ℕ) → Traced g count n pred v → Circle g n pred v u m → Traced g count m pred u
  round_traced count n v u m h C i l =
      subst (λ x. Upto count (pred x)) (sym (back_add v C.far i) ∙ ap (λ x. back g pred x i) C.from) (h (i + C.far) (omega (arith, C.low)))

  onward : (v t : ℕ) → Onward (trail g pred v t)
  onward v zero = tt
  onward v (suc t) = onward v t

module _ {L T : Type 0} (M : Meaning L T) (links : List (Link M.quantities.Q)) (O : Ordered M.quantities M.below) where
  open M.quantities use {Q, plus}

  abbrev K : Quantities
  K = M.quantities

  abbrev g : Graph
  g = graph K links

  abbrev measured : List Step → Q
  measured = tally K (λ p. (at K links p).measured)

  -- offsets that leave every link its latency tell along a walk
  telescope : (c : ℕ → Q) → Leaves M links c → (a : ℕ) (ss : List Step) (b : ℕ) → Onward ss → Walk g (Positions K links) a ss b → AtMost M (c a) (plus (measured ss) (c b))
  telescope c f a [] b o w = le_eq O _ _ (ap c w ∙ sym (left K (c b)))
  telescope c f a (Forward p ∷ ss) b o (e, i, w) =
      let m = (at K links p).measured in
      subst (λ x. AtMost M (c x) (plus (plus m (measured ss)) (c b))) e
      (le_trans O _ _ _ (f p i) (subst (AtMost M (plus m (c (g.to p)))) (sym (assoc K m (measured ss) (c b))) (le_shift O m _ _ (telescope c f (g.to p) ss b o w))))
  telescope c f a (Backward p ∷ ss) b o w = absurd o

  pub rules_out : (ss : List Step) → NegativeLoop M links ss → (b : ℕ → Q) × Leaves M links b → ⊥
  rules_out ss ((v, w, h, o, d), e) (b, f) = both_ways (M.below (measured ss)) (le_alone O (measured ss) (b v) (telescope b f v ss v o w)) e

  module _ (n : ℕ) (wired : Wired g (length links) n) (s : State Q) (A : After M links n n s) where
    abbrev at_back : ℕ → ℕ → ℕ
    at_back v t = back g s.pred v t

    -- the switch was raised
    abbrev Up : ℕ → Type 0
    Up v = On n v × (1 ≤ s.stamp v)

    up_led : (v : ℕ) → Up v → Led M links s v (s.pred v)
    up_led v u = A.led v u.0 u.1

    -- going t links back lowers the stamp by at most t
    falls : (v : ℕ) → On n v → (t : ℕ) → t ≤ s.stamp v → On n (at_back v t) × (s.stamp v ≤ s.stamp (at_back v t) + t)
    falls v o zero h = (o, omega arith)
    falls v o (suc t) h =
        let f = falls v o t (omega arith) in
        let d = up_led (at_back v t) (f.0, omega (arith, f.1)) in
        ((wired (s.pred (at_back v t)) d.on.0 d.on.1).0, omega (arith, f.1, d.near))

    module _ (v : ℕ) (o : On n v) (h : n ≤ s.stamp v) where
      ups : (t : ℕ) → t < n → Up (at_back v t)
      ups t l = let f = falls v o t (omega arith) in (f.0, omega (arith, f.1))

      pub traced : Traced g (length links) n s.pred v
      traced t l = (up_led (at_back v t) (ups t l)).on

      round_ups : (u m : ℕ) → Circle g n s.pred v u m → (i : ℕ) → i < m → Up (at_back u i)
      round_ups u m C i l = subst Up (sym (back_add g s.pred v C.far i) ∙ ap (λ x. at_back x i) C.from) (ups (i + C.far) (omega (arith, C.low)))

    -- what t links back from u say together
    record Chain (u t : ℕ) : Type 0 where
      walk : Walk g (Positions K links) (at_back u t) (trail g s.pred u t) u
      tied :
          Less M (plus (measured (trail g s.pred u t)) (s.offset u)) (s.offset (at_back u t))
          ⊎ ((plus (measured (trail g s.pred u t)) (s.offset u) ≡ s.offset (at_back u t)) × (s.stamp u ≡ s.stamp (at_back u t) + t))

    chain : (u t : ℕ) → ((i : ℕ) → i < t → Up (at_back u i)) → Chain u t
    chain u zero a = record { walk = refl; tied = inr (left K (s.offset u), omega arith) }
    chain u (suc t) a =
        let r = chain u t (λ i l. a i (omega arith)) in
        let p = s.pred (at_back u t) in
        let d = up_led (at_back u t) (a t (omega arith)) in
        let m = (at K links p).measured in
        let y = measured (trail g s.pred u t) in
        let e : plus (plus m y) (s.offset u) ≡ plus m (plus y (s.offset u)) = assoc K m y (s.offset u) in
        let at_most : AtMost M (plus m (s.offset (at_back u t))) (s.offset (g.from p)) = elim d.tied [ inl x ↦ lt_le O _ _ x | inr x ↦ le_eq O _ _ x.0 ] in
        record {
          walk = (refl, d.on, subst (λ x. Walk g (Positions K links) x (trail g s.pred u t) u) (sym d.ends) r.walk);
          tied = elim r.tied [
            | inl x ↦ inl (subst (λ z. Less M z (s.offset (g.from p))) (sym e) (lt_le_trans O _ _ _ (lt_shift O m _ _ x) at_most))
            | inr x ↦ elim d.tied [
              | inl z ↦ inl (subst (λ q. Less M q (s.offset (g.from p))) (sym (e ∙ ap (plus m) x.0)) z)
              | inr z ↦ inr (e ∙ ap (plus m) x.0 ∙ z.0, omega (arith, x.1, z.1))
            ]
          ];
        }

    -- the steps end at the switches that are passed on the way back
    avoids : (u y t : ℕ) → ((i : ℕ) → i < t → Up (at_back u i)) → ((i : ℕ) → i < t → at_back u i ≡ y → ⊥) → AllByRecursion (λ x. x ≡ y → ⊥) (ends g (trail g s.pred u t))
    avoids u y zero a d = tt
    avoids u y (suc t) a d = (λ e. d t (omega arith) (sym (up_led (at_back u t) (a t (omega arith))).ends ∙ e), avoids u y t (λ i l. a i (omega arith)) (λ i l. d i (omega arith)))

    parted : (u t : ℕ) → ((i : ℕ) → i < t → Up (at_back u i)) → ((i j : ℕ) → i < j → j < t → at_back u i ≡ at_back u j → ⊥) → Distinct (ends g (trail g s.pred u t))
    parted u zero a d = tt
    parted u (suc t) a d = (
      avoids u (g.to (s.pred (at_back u t))) t (λ i l. a i (omega arith)) (λ i l e. d i t l (omega arith) (e ∙ (up_led (at_back u t) (a t (omega arith))).ends)),
      parted u t (λ i l. a i (omega arith)) (λ i j h l. d i j h (omega arith)),
    )

    pub closes : (v : ℕ) → On n v → n ≤ s.stamp v → (u m : ℕ) → Circle g n s.pred v u m → NegativeLoop M links (trail g s.pred u m)
    closes v o h u m C =
        let a = round_ups v o h u m C in
        let r = chain u m a in
        let y = measured (trail g s.pred u m) in (
          (
            u,
            subst (λ x. Walk g (Positions K links) x (trail g s.pred u m) u) C.closes r.walk,
            omega (arith, trail_length g s.pred u m, C.some),
            onward g s.pred u m,
            parted u m a C.apart,
          ),
          elim r.tied [
            | inl x ↦ lt_alone O y (s.offset u) (subst (λ z. Less M (plus y (s.offset u)) (s.offset z)) C.closes x)
            | inr x ↦ absurd (let f : s.stamp (at_back u m) ≡ s.stamp u = ap s.stamp C.closes in omega (arith, x.1, C.some))
          ],
        )
