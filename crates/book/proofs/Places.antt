-- From a record in memory to the standing link that it means.
use Rattle.std.proofs.Common.{◌≡◌, ℕ, zero, suc, ◌<◌, true, false, List, [], ◌∷◌, map, length, get_or, Option, Some, None, sym, refl, subst, arith}
use Rattle.std.specs.Option.{is_some}
use lib.ListN.{length-map}
use Rattle.kind.specs.Meaning.{Meaning}
use Rattle.book.specs.declared.store.Store.{Store}
use Rattle.search.specs.declared.link.Link.{Link}
use Rattle.search.specs.Records.{link_of}
use Rattle.book.specs.Memory.{state_of, records}
use Rattle.calls.specs.Standing.{link, Standing}
use Rattle.book.specs.Search.{Here, Nowhere, Located}

-- what stands at a place, and what a map makes of it
pub map_at : {X Y : Type 0} (f : X → Y) (xs : List X) (k : ℕ) (e : Y) → k < length xs → (x : X) × ((d : X) → get_or xs k d ≡ x) × (get_or (map f xs) k e ≡ f x)
map_at f [] k e lt = absurd (omega arith)
map_at f (x ∷ xs) zero e lt = (x, λ d. refl, refl)
map_at f (x ∷ xs) (suc k) e lt = map_at f xs k e (omega arith)

module _ {L T : Type 0} (M : Meaning L T) (s : Store L) (P : ℕ → ℕ → Type 0) where
  pub stands : (k : ℕ) → Here P (records s) k → Standing M.quantities (state_of M s) (suc k) × P (link M.quantities (state_of M s) (suc k)).from (link M.quantities (state_of M s) (suc k)).to
  stands k h =
      let m = map_at (link_of M) (records s) k _ h.0 in
      let n = length-map (records s) (link_of M) in
      let a : P m.0.from m.0.to = subst (λ z. P z.from z.to) (m.1 m.0) (h.1 m.0) in
      ((omega arith, omega (arith, h.0)), subst (λ z. P z.from z.to) (sym m.2) a)

  pub absent : Nowhere P (records s) → (p : ℕ) → Standing M.quantities (state_of M s) p → P (link M.quantities (state_of M s) p).from (link M.quantities (state_of M s) p).to → ⊥
  absent h zero st a = absurd (omega (arith, st.0))
  absent h (suc k) st a =
      let n = length-map (records s) (link_of M) in
      let lt : k < length (records s) = omega (arith, st.1) in
      let m = map_at (link_of M) (records s) k _ lt in
      let b : P m.0.from m.0.to = subst (λ z. P z.from z.to) m.2 a in
      h k lt m.0 (subst (λ z. P z.from z.to) (sym (m.1 m.0)) b)

-- what a search that found something found, and what one that found nothing says
module _ {L : Type 0} (P : ℕ → ℕ → Type 0) (xs : List (Link L)) where
  pub found : (o : Option ℕ) → Located P xs o → true ≡ is_some o → (k : ℕ) × Here P xs k
  found (Some k) h e = (k, h)
  found None h e = absurd (cc)

  pub missing : (o : Option ℕ) → Located P xs o → false ≡ is_some o → Nowhere P xs
  missing (Some k) h e = absurd (cc)
  missing None h e = h
