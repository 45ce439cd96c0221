-- What is read of the rows in memory.
use Rattle.std.proofs.Common.{◌≡◌, ℕ, ◌+◌, ◌-◌, ◌<◌, ◌≤◌, Bool, true, false, List, [], ◌∷◌, map, length, get_or, take, drop, set, sym, refl, ap, ◌∙◌, subst, inr, arith}
use Rattle.std.proofs.lemmas.List.{get_or-take, get_or-drop, get_or-map, take-map, length-map, length-drop}
use Rattle.kind.specs.Meaning.{Meaning}
use Rattle.network.specs.Offsets.{graph}
use Rattle.search.specs.declared.link.Link.{Link as Record}
use Rattle.search.specs.Records.{link_of, On, Sound}
use Rattle.search.specs.Settled.{offset}
use Rattle.search.proofs.Wiring.{Wired, wired, one_graph}
use Rattle.schedule.specs.Rows.{Near, Passed, Lifted}

-- the ends of the record at i are switches
pub record_on : {L : Type 0} (n : ℕ) (records : List (Record L)) (i : ℕ) (l : Record L) → Sound n records → i < length records → l ≡ get_or records i l → On n l.from × On n l.to
record_on n records i l s h e = let w = s i h l in subst (λ r. On n r.from × On n r.to) (sym e) ((w.0, w.1), (w.2, w.3))

module _ {L T : Type 0} (M : Meaning L T) where
  open M.quantities use {Q, zero, plus, minus}

  pub netted : (n : ℕ) (records : List (Record L)) → Sound n records → Wired (graph M.quantities (map (link_of M) records)) (length (map (link_of M) records)) n
  netted n records s =
      subst (λ k. Wired (graph M.quantities (map (link_of M) records)) k n) (sym (length-map records (link_of M)))
      (subst (λ g. Wired g (length records) n) (one_graph M records) (wired n (length records) records (omega arith) s))

  -- rows with the same first n totals
  module _ (n : ℕ) (a b : List T) (e : take n a ≡ take n b) where
    same_total : (v : ℕ) → On n v → (t : T) → get_or a (v - 1) t ≡ get_or b (v - 1) t
    same_total v o t = sym (get_or-take n a (v - 1) t (omega (arith, o.0, o.1))) ∙ ap (λ r. get_or r (v - 1) t) e ∙ get_or-take n b (v - 1) t (omega (arith, o.0, o.1))

    pub same_near : (k : ℕ) → Near M n k a → Near M n k b
    same_near k h v o t = subst (M.within k) (same_total v o t) (h v o t)

    pub same_offset : (v : ℕ) → On n v → offset M a v ≡ offset M b v
    same_offset v o =
        sym (get_or-take n (map M.total a) (v - 1) zero (omega (arith, o.0, o.1)))
        ∙ ap (λ r. get_or r (v - 1) zero) (take-map M.total n a ∙ ap (map M.total) e ∙ sym (take-map M.total n b))
        ∙ get_or-take n (map M.total b) (v - 1) zero (omega (arith, o.0, o.1))

  some : (row : List T) → 0 < length row → T
  some [] h = absurd (omega arith)
  some (t ∷ row) h = t

  pub mean : (row : List T) (v : ℕ) (q : Q) → v - 1 < length row → ((t : T) → M.total (get_or row (v - 1) t) ≡ q) → offset M row v ≡ q
  mean row v q l h = let t = some row (omega arith) in get_or-map M.total row (v - 1) t zero l ∙ h t

  -- A link as it is heard: x is read behind the first n totals, at its sender, and z among them, at its receiver.
  module _ (n k : ℕ) (small : k < 1024) (l : Record L) (row : List T) (size : n + n ≤ length row) (from : On n l.from) (to : On n l.to) (near : Near M n (k + 1) row) (behind : Near M n k (drop n row))
      (x y : T) (is : x ≡ get_or row (n + (l.from - 1)) x) where
    abbrev m : Q
    m = M.latency l.measured

    abbrev z : T
    z = get_or row (l.to - 1) y

    behind_is : x ≡ get_or (drop n row) (l.from - 1) x
    behind_is = is ∙ sym (get_or-drop n row (l.from - 1) x)

    sent : offset M (drop n row) l.from ≡ M.total x
    sent = get_or-map M.total (drop n row) (l.from - 1) x zero (omega (arith, from.0, from.1, length-drop n row)) ∙ ap M.total (sym behind_is)

    got : offset M row l.to ≡ M.total z
    got = get_or-map M.total row (l.to - 1) y zero (omega (arith, to.0, to.1))

    near_sent : M.within k x
    near_sent = subst (M.within k) (sym behind_is) (behind l.from from x)

    -- what the test says of the totals, it says of the offsets
    module _ (r : Bool) (test : (i j : ℕ) → M.within i x → M.within j z → 1 + j + i ≤ 16777216 → r ≡ M.below (plus (plus m (M.total z)) (minus (M.total x)))) where
      tested : (b : Bool) → r ≡ b → M.below (plus (plus m (offset M row l.to)) (minus (offset M (drop n row) l.from))) ≡ b
      tested b e =
          ap (λ a. M.below (plus (plus m a) (minus (offset M (drop n row) l.from)))) got
          ∙ ap (λ a. M.below (plus (plus m (M.total z)) (minus a))) sent
          ∙ sym (test k (k + 1) near_sent (near l.to to y) (omega arith))
          ∙ e

      pub served : r ≡ false → (stamps preds : List ℕ) → Passed M n k l row row stamps stamps preds preds
      served e stamps preds = record { row_is = refl; stamps_is = refl; preds_is = refl; asks = inr (tested false e) }

      pub raised : r ≡ true → (a : T) → ((i : ℕ) → M.within i x → i + 1 ≤ 16777216 → (plus m (M.total a) ≡ M.total x) × M.within (i + 1) a) → (p : ℕ) (stamps preds : List ℕ)
          → Lifted M n k p l row (set row (l.to - 1) a) stamps (set stamps (l.to - 1) (k + 1)) preds (set preds (l.to - 1) p)
      raised e a ask p stamps preds =
          let q = ask k near_sent (omega arith) in
          record { x = a; row_is = refl; stamps_is = refl; preds_is = refl; short = tested true e; level = q.0 ∙ sym sent; near = q.1 }
