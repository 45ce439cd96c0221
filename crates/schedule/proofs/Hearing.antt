-- A round over the rows in memory.
use Rattle.std.proofs.Common.{◌≡◌, ℕ, suc, ◌+◌, ◌-◌, ◌<◌, ◌≤◌, Bool, true, false, cond, List, map, length, get_or, take, drop, set, Some, None, Option, sym, refl, ap, ◌∙◌, subst, inl, inr, add-one, arith, MatchOption}
use Rattle.std.proofs.lemmas.List.{get_or-set_same, get_or-set_other, map-set, length-map, drop-set-lt}
use Rattle.std.proofs.lemmas.Bool.{cases_eq}
use Rattle.kind.specs.Order.{Ordered}
use Rattle.kind.specs.Meaning.{Meaning}
use Rattle.network.specs.Offsets.{Link}
use Rattle.search.specs.declared.link.Link.{Link as Record}
use Rattle.search.specs.Records.{link_of, On, Sound}
use Rattle.search.specs.Settled.{offset}
use Rattle.search.proofs.Wiring.{link_here}
use Rattle.schedule.specs.Least.{Realises}
use Rattle.schedule.specs.Rounds.{State, Less, AtMost, After}
use Rattle.schedule.specs.Rows.{entry, state_of, Near, Passed, Lifted, Heard}
use Rattle.schedule.proofs.Raising.{Kept, Partly, Lifts, begins, passes, idles, lifts, steps, realises}
use Rattle.schedule.proofs.Reading.{netted, record_on, same_near, same_offset}

module _ {L T : Type 0} (M : Meaning L T) (records : List (Record L)) (n k : ℕ) (stamps₀ preds₀ : List ℕ) where
  open M.quantities use {Q, zero, plus}

  abbrev links : List (Link Q)
  links = map (link_of M) records

  -- the rows once the first i links of round k + 1 are heard, which began with the totals `was`
  pub record Hearing (i : ℕ) (row : List T) (stamps preds : List ℕ) (raised : Option ℕ) : Type 0 where
    pub was : List T
    pub after : After M links n k (state_of M was stamps₀ preds₀)
    pub near : Near M n (k + 1) row
    pub behind : Near M n k (drop n row)
    pub old : (v : ℕ) → On n v → offset M (drop n row) v ≡ offset M was v
    pub partly : Partly M links n k i (state_of M was stamps₀ preds₀) (state_of M row stamps preds)
    pub last : MatchOption raised (stamps ≡ stamps₀) (λ v. On n v × (entry stamps v ≡ k + 1))

  moved : (i : ℕ) (row row' : List T) (stamps stamps' preds preds' : List ℕ) (raised : Option ℕ) → row' ≡ row → stamps' ≡ stamps → preds' ≡ preds → Hearing i row stamps preds raised → Hearing i row' stamps' preds' raised
  moved i row row' stamps stamps' preds preds' raised a b c h =
      subst (λ r. Hearing i r stamps' preds' raised) (sym a) (subst (λ r. Hearing i row r preds' raised) (sym b) (subst (λ r. Hearing i row stamps r raised) (sym c) h))

  module _ (O : Ordered M.quantities M.below) (sound : Sound n records) where
    pub opens : (was row : List T) → After M links n k (state_of M was stamps₀ preds₀) → take n row ≡ take n was → take n (drop n row) ≡ take n was → Near M n k was → Hearing 0 row stamps₀ preds₀ None
    opens was row A e f h =
        record {
          was = was;
          after = A;
          near = λ v o t. M.wider k (k + 1) (get_or row (v - 1) t) (omega arith) (same_near M n was row (sym e) k h v o t);
          behind = same_near M n was (drop n row) (sym f) k h;
          old = same_offset M n (drop n row) was f;
          partly = begins M links O n (netted M n records sound) k _ _ (λ v o. record { offset_is = same_offset M n row was e v o; stamp_is = refl; pred_is = refl });
          last = refl;
        }

    module _ (i : ℕ) (row : List T) (stamps preds : List ℕ) (raised : Option ℕ) (H : Hearing i row stamps preds raised) (l : Record L) (low : i < length records) (is : l ≡ get_or records i l) where
      abbrev s : State Q
      s = state_of M H.was stamps₀ preds₀

      abbrev t : State Q
      t = state_of M row stamps preds

      abbrev t' : T → State Q
      t' x = state_of M (set row (l.to - 1) x) (set stamps (l.to - 1) (k + 1)) (set preds (l.to - 1) (i + 1))

      from : On n l.from
      from = (record_on n records i l sound low is).0

      to : On n l.to
      to = (record_on n records i l sound low is).1

      deep : i < length links
      deep = omega (arith, length-map records (link_of M))

      served : AtMost M (offset M (drop n row) l.from) (plus (M.latency l.measured) (offset M row l.to)) → Partly M links n k (suc i) s t
      served h =
          passes M links O n (netted M n records sound) k s i deep t H.partly
          (subst (λ z. AtMost M (s.offset z.from) (plus z.measured (t.offset z.to))) (sym (link_here M records i l low is)) (subst (λ q. AtMost M q (plus (M.latency l.measured) (offset M row l.to))) (H.old l.from from) h))

      still : entry stamps l.from < k → Partly M links n k (suc i) s t
      still h = idles M links O n (netted M n records sound) k s i deep t H.partly H.after (subst (λ z. t.stamp z.from < k) (sym (link_here M records i l low is)) h)

      passed : (row' : List T) (stamps' preds' : List ℕ) → Passed M n k l row row' stamps stamps' preds preds' → Hearing (i + 1) row' stamps' preds' raised
      passed row' stamps' preds' P =
          let next : Partly M links n k (suc i) s t = elim P.asks [ inl h ↦ still h | inr h ↦ served h ] in
          moved (i + 1) row row' stamps stamps' preds preds' raised P.row_is P.stamps_is P.preds_is
          (record { was = H.was; after = H.after; near = H.near; behind = H.behind; old = H.old; partly = subst (λ j. Partly M links n k j s t) (sym (add-one i)) next; last = H.last })

      module _ (size : n ≤ length row) (sizes : (n ≤ length stamps) × (n ≤ length preds)) where
        place : l.to - 1 < n
        place = omega (arith, to.0, to.1)

        other : (v : ℕ) → On n v → (v ≡ l.to → ⊥) → v - 1 ≡ l.to - 1 → ⊥
        other v o d e = d (omega (arith, o.0, to.0))

        near_set : (x : T) → M.within (k + 1) x → Near M n (k + 1) (set row (l.to - 1) x)
        near_set x w v o d =
            elim (cases_eq v l.to) [
              | inl e ↦ subst (M.within (k + 1)) (sym (ap (λ u. get_or (set row (l.to - 1) x) (u - 1) d) e ∙ get_or-set_same row (l.to - 1) x d (let a = place in omega arith))) w
              | inr e ↦ subst (M.within (k + 1)) (sym (get_or-set_other row (l.to - 1) (v - 1) x d (other v o e))) (H.near v o d)
            ]

        set_offset : (x : T) → offset M (set row (l.to - 1) x) l.to ≡ M.total x
        set_offset x = ap (λ r. get_or r (l.to - 1) zero) (map-set M.total row (l.to - 1) x) ∙ get_or-set_same (map M.total row) (l.to - 1) (M.total x) zero (let a = place in omega (arith, length-map row M.total))

        stamped : entry (set stamps (l.to - 1) (k + 1)) l.to ≡ k + 1
        stamped = get_or-set_same stamps (l.to - 1) (k + 1) 0 (let a = place in omega (arith, sizes.0))

        set_other : (x : T) (v : ℕ) → On n v → (v ≡ l.to → ⊥) → Kept t (t' x) v
        set_other x v o d =
            record {
              offset_is = ap (λ r. get_or r (v - 1) zero) (map-set M.total row (l.to - 1) x) ∙ get_or-set_other (map M.total row) (l.to - 1) (v - 1) (M.total x) zero (other v o d);
              stamp_is = get_or-set_other stamps (l.to - 1) (v - 1) (k + 1) 0 (other v o d);
              pred_is = get_or-set_other preds (l.to - 1) (v - 1) (i + 1) 0 (other v o d);
            }

        module _ (row' : List T) (stamps' preds' : List ℕ) (F : Lifted M n k (i + 1) l row row' stamps stamps' preds preds') where
          raises : Lifts M links n k (suc i) (link_of M l) s t (t' F.x)
          raises =
              record {
                short = subst (Less M (plus (M.latency l.measured) (offset M row l.to))) (H.old l.from from) F.short;
                level = ap (plus (M.latency l.measured)) (set_offset F.x) ∙ F.level ∙ H.old l.from from;
                stamp_is = stamped ∙ add-one k;
                pred_is = get_or-set_same preds (l.to - 1) (i + 1) 0 (let a = place in omega (arith, sizes.1)) ∙ add-one i;
                others = set_other F.x;
              }

          next : Partly M links n k (suc i) s (t' F.x)
          next = lifts M links O n (netted M n records sound) k s i deep t H.partly (t' F.x) (subst (λ z. Lifts M links n k (suc i) z s t (t' F.x)) (sym (link_here M records i l low is)) raises)

          lifted : Hearing (i + 1) row' stamps' preds' (Some l.to)
          lifted =
              let behind : drop n (set row (l.to - 1) F.x) ≡ drop n row = drop-set-lt n row (l.to - 1) F.x place in
              moved (i + 1) (set row (l.to - 1) F.x) row' (set stamps (l.to - 1) (k + 1)) stamps' (set preds (l.to - 1) (i + 1)) preds' (Some l.to) F.row_is F.stamps_is F.preds_is
              (record {
                was = H.was;
                after = H.after;
                near = near_set F.x F.near;
                behind = subst (Near M n k) (sym behind) H.behind;
                old = λ v o. ap (λ r. offset M r v) behind ∙ H.old v o;
                partly = subst (λ j. Partly M links n k j s (t' F.x)) (sym (add-one i)) next;
                last = (to, stamped);
              })

        pub hears : (row' : List T) (stamps' preds' : List ℕ) (r b : Bool) (next : Option ℕ) → Heard M n k (i + 1) l row row' stamps stamps' preds preds' r → r ≡ b → next ≡ cond b (Some l.to) raised → Hearing (i + 1) row' stamps' preds' next
        hears row' stamps' preds' r b next h e f = subst (Hearing (i + 1) row' stamps' preds') (sym f) (go b (subst (Heard M n k (i + 1) l row row' stamps stamps' preds preds') e h))
          where
            go : (b : Bool) → Heard M n k (i + 1) l row row' stamps stamps' preds preds' b → Hearing (i + 1) row' stamps' preds' (cond b (Some l.to) raised)
            go true F = lifted row' stamps' preds' F
            go false P = passed row' stamps' preds' P

    -- every link is heard
    module _ (i : ℕ) (all : length records ≤ i) (row : List T) (stamps preds : List ℕ) (raised : Option ℕ) (H : Hearing i row stamps preds raised) where
      whole : Partly M links n k (length links) (state_of M H.was stamps₀ preds₀) (state_of M row stamps preds)
      whole = record { heard = λ p o l. H.partly.heard p o (omega (arith, length-map records (link_of M), o.1)); each = H.partly.each }

      pub ends : After M links n (k + 1) (state_of M row stamps preds)
      ends = subst (λ j. After M links n j (state_of M row stamps preds)) (sym (add-one k)) (steps M links O n (netted M n records sound) k (state_of M H.was stamps₀ preds₀) _ H.after whole)

      pub outcome : MatchOption raised (Realises M n links (offset M row)) (λ v. On n v × (entry stamps v ≡ k + 1))
      outcome = go raised H.last
        where
          go : (r : Option ℕ) → MatchOption r (stamps ≡ stamps₀) (λ v. On n v × (entry stamps v ≡ k + 1)) → MatchOption r (Realises M n links (offset M row)) (λ v. On n v × (entry stamps v ≡ k + 1))
          go None e = realises M links O n (netted M n records sound) (k + 1) _ ends (λ v o. let a = H.after.early v o in let b : entry stamps v ≡ entry stamps₀ v = ap (λ r. entry r v) e in omega arith)
          go (Some v) h = h
