-- What the rows hold in the end: the least offsets, or a loop below zero.
use Rattle.std.proofs.Common.{◌≡◌, ℕ, ◌≤◌, false, List, ◌++◌, map, length, take, Ok, Err, Result, sym, ap, ◌∙◌, subst, subst₂, arith}
use Rattle.std.proofs.lemmas.List.{length-map, take-append-le}
use Rattle.kind.specs.Order.{Ordered}
use Rattle.kind.specs.Meaning.{Meaning}
use Rattle.network.specs.declared.Step.{Step}
use Rattle.network.specs.Graph.{Graph}
use Rattle.network.specs.Offsets.{Link, at, graph}
use Rattle.search.specs.declared.link.Link.{Link as Record}
use Rattle.search.specs.Records.{link_of, graph_of, On, Sound}
use Rattle.search.specs.Settled.{offset}
use Rattle.search.specs.Written.{Written}
use Rattle.search.proofs.Wiring.{one_graph}
use Rattle.schedule.specs.declared.unrealisable.Unrealisable.{Unrealisable}
use Rattle.schedule.specs.Least.{Leaves, NegativeLoop, Scheduled}
use Rattle.schedule.specs.Rounds.{After, trail}
use Rattle.schedule.specs.Rows.{entry, state_of, Near, Traced, Circle}
use Rattle.schedule.proofs.Looping.{traced, closes, rules_out}
use Rattle.schedule.proofs.Reading.{netted, same_near, same_offset}

module _ {L T : Type 0} (M : Meaning L T) (records : List (Record L)) (n : ℕ) (sound : Sound n records) where
  open M.quantities use {Q, plus, minus}

  abbrev links : List (Link Q)
  links = map (link_of M) records

  abbrev g : Graph
  g = graph M.quantities links

  -- the same offsets at every switch serve the same
  same_schedule : (c d : ℕ → Q) → ((v : ℕ) → On n v → c v ≡ d v) → (row row' : List ℕ) (r : Result (Unit {0}) Unrealisable) → Scheduled M n links c row row' r → Scheduled M n links d row row' r
  same_schedule c d e row row' (Err m) h = h
  same_schedule c d e row row' (Ok _) ((up, leaves), least, same) = (
    (
      λ v a b. ap M.below (sym (e v (a, b))) ∙ up v a b,
      λ p o.
          let w = netted M n records sound p o.0 o.1 in
          let l = at M.quantities links p in
          subst₂ (λ x y. M.below (plus (plus l.measured x) (minus y)) ≡ false) (e l.to w.1) (e l.from w.0) (leaves p o),
    ),
    λ b f v x y. subst (λ q. M.below (plus (b v) (minus q)) ≡ false) (e v (x, y)) (least b f v x y),
    same,
  )

  -- what is known of the first n totals is known whatever follows them
  module _ (totals rest : List T) (size : n ≤ length totals) where
    front : take n totals ≡ take n (totals ++ rest)
    front = sym (take-append-le n totals rest size)

    pub longer_near : (k : ℕ) → Near M n k totals → Near M n k (totals ++ rest)
    longer_near = same_near M n totals (totals ++ rest) front

    pub longer_schedule : (row row' : List ℕ) (r : Result (Unit {0}) Unrealisable) → Scheduled M n links (offset M totals) row row' r → Scheduled M n links (offset M (totals ++ rest)) row row' r
    longer_schedule = same_schedule (offset M totals) (offset M (totals ++ rest)) (same_offset M n totals (totals ++ rest) front)

  module _ (O : Ordered M.quantities M.below) (row : List T) (stamps preds : List ℕ) (after : After M links n n (state_of M row stamps preds)) (v : ℕ) (o : On n v) (h : entry stamps v ≡ n) where
    pub row_traced : Traced (graph_of records) (length records) n (entry preds) v
    row_traced = subst₂ (λ g k. Traced g k n (entry preds) v) (sym (one_graph M records)) (length-map records (link_of M)) (traced M links O n (netted M n records sound) (state_of M row stamps preds) after v o (omega arith))

    pub shown : (u m : ℕ) → Circle (graph_of records) n (entry preds) v u m → (steps steps' : List ℕ) → Written steps steps' m (trail (graph_of records) (entry preds) u m)
        → ((b : ℕ → Q) × Leaves M links b → ⊥) × ((ss : List Step) × NegativeLoop M links ss × Written steps steps' m ss)
    shown u m C steps steps' w =
        let N = closes M links O n (netted M n records sound) (state_of M row stamps preds) after v o (omega arith) u m (subst (λ g. Circle g n (entry preds) v u m) (one_graph M records) C) in
        (rules_out M links O (trail g (entry preds) u m) N, (trail g (entry preds) u m, N, subst (λ g. Written steps steps' m (trail g (entry preds) u m)) (one_graph M records) w))
