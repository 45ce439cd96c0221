-- One round, link by link, and what it keeps.
use Rattle.std.proofs.Common.{◌≡◌, ℕ, suc, ◌<◌, ◌≤◌, false, ◌⊎◌, List, length, sym, ap, ◌∙◌, subst, subst₂, inl, inr, arith}
use Rattle.std.proofs.lemmas.Bool.{cases_lt, cases_eq}
use Rattle.kind.specs.Order.{Ordered}
use Rattle.kind.specs.Meaning.{Meaning}
use Rattle.network.specs.Offsets.{Link, at, graph, Positions}
use Rattle.search.specs.Records.{On}
use Rattle.search.proofs.Wiring.{Wired}
use Rattle.schedule.specs.Least.{Realises, Least}
use Rattle.schedule.specs.Rounds.{State, Less, AtMost, Led, After}
use Rattle.schedule.proofs.Order.{le_eq, le_trans, lt_le, clash, le_lt_trans, le_shift, le_unshift, lt_shift, lt_unshift, le_zero, zero_le}

-- switch v is as it was
pub record Kept {Q : Type 0} (s t : State Q) (v : ℕ) : Type 0 where
  pub offset_is : t.offset v ≡ s.offset v
  pub stamp_is : t.stamp v ≡ s.stamp v
  pub pred_is : t.pred v ≡ s.pred v

module _ {L T : Type 0} (M : Meaning L T) (links : List (Link M.quantities.Q)) where
  open M.quantities use {Q, plus}

  abbrev link : ℕ → Link Q
  link p = at M.quantities links p

  -- switch v was raised in round k + 1, to what its link asks
  pub record Raised (k : ℕ) (s t : State Q) (v : ℕ) : Type 0 where
    pub more : Less M (s.offset v) (t.offset v)
    pub stamp_is : t.stamp v ≡ suc k
    pub on : Positions M.quantities links (t.pred v)
    pub ends : (link (t.pred v)).to ≡ v
    pub gives : plus (link (t.pred v)).measured (t.offset v) ≡ s.offset (link (t.pred v)).from

  -- round k + 1 has heard the first i links since s
  pub record Partly (n k i : ℕ) (s t : State Q) : Type 0 where
    pub heard : (p : ℕ) → Positions M.quantities links p → p ≤ i → AtMost M (s.offset (link p).from) (plus (link p).measured (t.offset (link p).to))
    pub each : (v : ℕ) → On n v → Kept s t v ⊎ Raised k s t v

  -- t' is t but for the receiver of the link l at p, which was raised
  pub record Lifts (n k p : ℕ) (l : Link Q) (s t t' : State Q) : Type 0 where
    pub short : Less M (plus l.measured (t.offset l.to)) (s.offset l.from)
    pub level : plus l.measured (t'.offset l.to) ≡ s.offset l.from
    pub stamp_is : t'.stamp l.to ≡ suc k
    pub pred_is : t'.pred l.to ≡ p
    pub others : (v : ℕ) → On n v → (v ≡ l.to → ⊥) → Kept t t' v

  module _ (O : Ordered M.quantities M.below) (n : ℕ) (wired : Wired (graph M.quantities links) (length links) n) where
    -- while a round goes on
    module _ (k : ℕ) (s : State Q) where
      pub begins : (t : State Q) → ((v : ℕ) → On n v → Kept s t v) → Partly n k 0 s t
      begins t same = record { heard = λ p o h. absurd (omega (arith, o.0)); each = λ v o. inl (same v o) }

      module _ (i : ℕ) (low : i < length links) (t : State Q) (P : Partly n k i s t) where
        here : Positions M.quantities links (suc i)
        here = (omega arith, omega arith)

        grown : (v : ℕ) → On n v → AtMost M (s.offset v) (t.offset v)
        grown v o = elim (P.each v o) [ inl q ↦ le_eq O _ _ (sym q.offset_is) | inr r ↦ lt_le O _ _ r.more ]

        pub passes : AtMost M (s.offset (link (suc i)).from) (plus (link (suc i)).measured (t.offset (link (suc i)).to)) → Partly n k (suc i) s t
        passes h =
            record {
              heard = λ p o l.
                  elim (cases_eq p (suc i)) [
                    | inl e ↦ subst (λ p. AtMost M (s.offset (link p).from) (plus (link p).measured (t.offset (link p).to))) (sym e) h
                    | inr e ↦ P.heard p o (omega arith)
                  ];
              each = P.each;
            }

        -- a sender that was raised neither in this round nor in the last one asks nothing new
        pub idles : After M links n k s → t.stamp (link (suc i)).from < k → Partly n k (suc i) s t
        idles A h =
            let w = wired (suc i) here.0 here.1 in
            let x : s.stamp (link (suc i)).from < k = elim (P.each (link (suc i)).from w.0) [ inl q ↦ omega (arith, q.stamp_is) | inr r ↦ absurd (omega (arith, r.stamp_is)) ] in
            passes (le_trans O _ _ _ (A.closed (suc i) here x) (le_shift O (link (suc i)).measured _ _ (grown (link (suc i)).to w.1)))

        pub lifts : (t' : State Q) → Lifts n k (suc i) (link (suc i)) s t t' → Partly n k (suc i) s t'
        lifts t' F =
            record {
              heard = λ p o l.
                  elim (cases_eq p (suc i)) [
                    | inl e ↦ subst (λ p. AtMost M (s.offset (link p).from) (plus (link p).measured (t'.offset (link p).to))) (sym e) (le_eq O _ _ (sym F.level))
                    | inr e ↦ le_trans O _ _ _ (P.heard p o (omega arith)) (le_shift O (link p).measured _ _ (up (link p).to (wired p o.0 o.1).1))
                  ];
              each = λ v o. elim (cases_eq v (link (suc i)).to) [ inl e ↦ inr (subst (Raised k s t') (sym e) raised) | inr e ↦ away v o (F.others v o e) ];
            }
          where
            more : Less M (t.offset (link (suc i)).to) (t'.offset (link (suc i)).to)
            more = lt_unshift O (link (suc i)).measured _ _ (subst (Less M (plus (link (suc i)).measured (t.offset (link (suc i)).to))) (sym F.level) F.short)

            up : (v : ℕ) → On n v → AtMost M (t.offset v) (t'.offset v)
            up v o = elim (cases_eq v (link (suc i)).to) [ inl e ↦ subst (λ x. AtMost M (t.offset x) (t'.offset x)) (sym e) (lt_le O _ _ more) | inr e ↦ le_eq O _ _ (sym (F.others v o e).offset_is) ]

            raised : Raised k s t' (link (suc i)).to
            raised =
                let e = F.pred_is in
                record {
                  more = le_lt_trans O _ _ _ (grown (link (suc i)).to (wired (suc i) here.0 here.1).1) more;
                  stamp_is = F.stamp_is;
                  on = subst (Positions M.quantities links) (sym e) here;
                  ends = ap (λ p. (link p).to) e;
                  gives = subst (λ p. plus (link p).measured (t'.offset (link (suc i)).to) ≡ s.offset (link p).from) (sym e) F.level;
                }

            away : (v : ℕ) → On n v → Kept t t' v → Kept s t' v ⊎ Raised k s t' v
            away v o q =
                elim (P.each v o) [
                  | inl x ↦ inl (record { offset_is = q.offset_is ∙ x.offset_is; stamp_is = q.stamp_is ∙ x.stamp_is; pred_is = q.pred_is ∙ x.pred_is })
                  | inr x ↦ inr (record {
                    more = subst (Less M (s.offset v)) (sym q.offset_is) x.more;
                    stamp_is = q.stamp_is ∙ x.stamp_is;
                    on = subst (Positions M.quantities links) (sym q.pred_is) x.on;
                    ends = ap (λ p. (link p).to) q.pred_is ∙ x.ends;
                    gives = subst₂ (λ p z. plus (link p).measured z ≡ s.offset (link p).from) (sym q.pred_is) (sym q.offset_is) x.gives;
                  })
                ]

    -- once the round is over
    module _ (k : ℕ) (s t : State Q) (A : After M links n k s) (R : Partly n k (length links) s t) where
      early : (v : ℕ) → On n v → t.stamp v ≤ suc k
      early v o = let e = A.early v o in elim (R.each v o) [ inl q ↦ omega (arith, q.stamp_is) | inr r ↦ omega (arith, r.stamp_is) ]

      closed : (p : ℕ) → Positions M.quantities links p → t.stamp (link p).from < suc k → AtMost M (t.offset (link p).from) (plus (link p).measured (t.offset (link p).to))
      closed p o h =
          elim (R.each (link p).from (wired p o.0 o.1).0) [
            | inl q ↦ subst (λ x. AtMost M x (plus (link p).measured (t.offset (link p).to))) (sym q.offset_is) (R.heard p o o.1)
            | inr r ↦ absurd (omega (arith, r.stamp_is))
          ]

      -- a switch that was kept stays led by its link
      kept_led : (v : ℕ) → On n v → Kept s t v → (p : ℕ) → Led M links s v p → Led M links t v p
      kept_led v o q p H = go (R.each (link p).from (wired p H.on.0 H.on.1).0)
        where
          m : plus (link p).measured (t.offset v) ≡ plus (link p).measured (s.offset v)
          m = ap (plus (link p).measured) q.offset_is

          at_most : AtMost M (plus (link p).measured (t.offset v)) (s.offset (link p).from)
          at_most = elim H.tied [ inl x ↦ le_trans O _ _ _ (le_eq O _ _ m) (lt_le O _ _ x) | inr x ↦ le_eq O _ _ (m ∙ x.0) ]

          go : Kept s t (link p).from ⊎ Raised k s t (link p).from → Led M links t v p
          go (inl f) =
              record {
                on = H.on;
                ends = H.ends;
                near = omega (arith, H.near, f.stamp_is, q.stamp_is);
                tied = elim H.tied [
                  | inl x ↦ inl (subst₂ (Less M) (sym m) (sym f.offset_is) x)
                  | inr x ↦ inr (m ∙ x.0 ∙ sym f.offset_is, q.stamp_is ∙ x.1 ∙ ap suc (sym f.stamp_is))
                ];
              }
          go (inr f) = record { on = H.on; ends = H.ends; near = omega (arith, early v o, f.stamp_is); tied = inl (le_lt_trans O _ _ _ at_most f.more) }

      -- a switch that was raised is led by the link for which it was
      raised_led : (v : ℕ) → Raised k s t v → Led M links t v (t.pred v)
      raised_led v r = go (R.each (link (t.pred v)).from (wired (t.pred v) r.on.0 r.on.1).0)
        where
          p : ℕ
          p = t.pred v

          sent : s.stamp (link p).from < k → ⊥
          sent h =
              clash O _ _ (A.closed p r.on h)
              (subst₂ (Less M) (ap (λ x. plus (link p).measured (s.offset x)) (sym r.ends)) r.gives (lt_shift O (link p).measured _ _ r.more))

          go : Kept s t (link p).from ⊎ Raised k s t (link p).from → Led M links t v p
          go (inl q) =
              let e = A.early (link p).from (wired p r.on.0 r.on.1).0 in
              let f : s.stamp (link p).from ≡ k = elim (cases_lt (s.stamp (link p).from) k) [ inl h ↦ absurd (sent h) | inr h ↦ omega arith ] in
              record { on = r.on; ends = r.ends; near = omega (arith, r.stamp_is, q.stamp_is); tied = inr (r.gives ∙ sym q.offset_is, omega (arith, r.stamp_is, q.stamp_is)) }
          go (inr q) = record { on = r.on; ends = r.ends; near = omega (arith, r.stamp_is, q.stamp_is); tied = inl (subst (λ x. Less M x (t.offset (link p).from)) (sym r.gives) q.more) }

      led : (v : ℕ) → On n v → 1 ≤ t.stamp v → Led M links t v (t.pred v)
      led v o h =
          elim (R.each v o) [
            | inl q ↦ subst (Led M links t v) (sym q.pred_is) (kept_led v o q (s.pred v) (A.led v o (omega (arith, q.stamp_is))))
            | inr r ↦ raised_led v r
          ]

      up : (v : ℕ) → 1 ≤ v → v ≤ n → M.below (t.offset v) ≡ false
      up v a b =
          elim (R.each v (a, b)) [
            | inl q ↦ ap M.below q.offset_is ∙ A.up v a b
            | inr r ↦ zero_le O _ (le_trans O _ _ _ (le_zero O _ (A.up v a b)) (lt_le O _ _ r.more))
          ]

      -- offsets that realise the links are no less than what a link asks of them
      least : Least M n links t.offset
      least b f v x y =
          elim (R.each v (x, y)) [
            | inl q ↦ subst (λ z. AtMost M z (b v)) (sym q.offset_is) (A.least b f v x y)
            | inr r ↦
                let p = t.pred v in
                let w = (wired p r.on.0 r.on.1).0 in
                let far : AtMost M (b (link p).from) (plus (link p).measured (b v)) = subst (λ u. AtMost M (b (link p).from) (plus (link p).measured (b u))) r.ends (f.1 p r.on) in
                le_unshift O (link p).measured _ _ (subst (λ z. AtMost M z (plus (link p).measured (b v))) (sym r.gives) (le_trans O _ _ _ (A.least b f (link p).from w.0 w.1) far))
          ]

      pub steps : After M links n (suc k) t
      steps = record { early = early; closed = closed; led = led; up = up; least = least }

    -- after a round that raised nothing the links are realised
    pub realises : (k : ℕ) (s : State Q) → After M links n k s → ((v : ℕ) → On n v → s.stamp v < k) → Realises M n links s.offset
    realises k s A all = (A.up, λ p o. A.closed p o (all (link p).from (wired p o.0 o.1).0))
