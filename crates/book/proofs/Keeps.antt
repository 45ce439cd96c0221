-- One record taken out, or one put at the end: what stands then, and that the invariants stay.
use Rattle.std.proofs.Common.{◌≡◌, ℕ, suc, ◌+◌, ◌-◌, ◌<◌, ◌≤◌, min, Bool, List, [], ◌∷◌, ◌++◌, map, length, take, drop, set, sym, ap, ◌∙◌, subst, ⊎_elim, zero-le, arith, length-set}
use mathlib.Core.List.{map-append}
use Rattle.std.specs.List.{remove}
use Rattle.std.proofs.lemmas.List.{length-map, take-map, drop-map, take_at, drop_at, drop-drop, length-append, length-drop, length-take-le, take_more_set, length_push, get_or_push, get_or_append_left, map_push}
use Rattle.std.proofs.lemmas.List.Edits.{length-remove}
use Rattle.std.proofs.lemmas.List.Elements.{AllWithin-push}
use Rattle.std.proofs.lemmas.Bool.{cases_lt}
use Rattle.calls.proofs.Removed.{from_removed}
use Rattle.kind.specs.Meaning.{Meaning}
use Rattle.network.specs.Offsets.{Link as Standard, Fits}
use Rattle.network.proofs.Lists.{theory}
use Rattle.search.specs.declared.link.Link.{Link}
use Rattle.book.specs.declared.store.Store.{Store}
use Rattle.search.specs.Records.{link_of}
use Rattle.book.specs.Memory.{state_of, records, capacity_of, Good, Sound, Single, Held}
use Rattle.calls.specs.State.{State, STRIKE, done}
use Rattle.calls.specs.Standing.{Stands}
use Rattle.calls.specs.Calls.{Next, by_strike, holding}
use Rattle.book.specs.Search.{Here, Nowhere, Joins}
use Rattle.std.proofs.Math.Logic.{∥∥₁_map}

module _ {L : Type 0} where
  pub sound-removed : (n : ℕ) (xs : List (Link L)) (i : ℕ) → i < length xs → Sound n xs → Sound n (remove xs i)
  sound-removed n xs i lt h = λ k kl d.
      let P : Link L → Type 0 = λ z. Good n z in
      let len = length-remove xs i lt in
      let m = from_removed xs i lt k (omega arith) in
      subst P (sym (m.6 d)) (h m.0 m.1 d)

  pub single-removed : (xs : List (Link L)) (i : ℕ) → i < length xs → Single xs → Single (remove xs i)
  single-removed xs i lt h = λ j k d e.
      let len = length-remove xs i lt in
      let a = from_removed xs i lt j (omega (arith, e.0, e.1)) in
      let b = from_removed xs i lt k (omega (arith, e.1)) in
      let less : a.0 < b.0 =
      ⊎_elim (λ (p : j < i). let q = a.4 p in omega (arith, e.0, b.2)) (λ (p : i ≤ j). let q = b.5 (omega (arith, e.0)) in omega (arith, e.0, a.3)) (cases_lt j i) in
      h a.0 b.0 d (less, b.1, sym (ap (λ z. z.from) (a.6 d)) ∙ e.2 ∙ ap (λ z. z.from) (b.6 d), sym (ap (λ z. z.to) (a.6 d)) ∙ e.3 ∙ ap (λ z. z.to) (b.6 d))

  pub sound-push : (n : ℕ) (xs : List (Link L)) (y : Link L) → Sound n xs → Good n y → Sound n (xs ++ y ∷ [])
  sound-push n xs y h g = λ k lt d. AllWithin-push (Good n) xs y (λ k d _ lt. h k lt d) g k d zero-le lt

  pub single-push : (xs : List (Link L)) (y : Link L) → Single xs → Nowhere (Joins y.from y.to) xs → Single (xs ++ y ∷ [])
  single-push xs y h none = λ j k d e.
      let len = length_push xs y in
      let low : j < length xs = omega (arith, e.0, e.1) in
      let a = get_or_append_left xs (y ∷ []) d j low in
      ⊎_elim (λ (p : k < length xs).
      let b = get_or_append_left xs (y ∷ []) d k p in
      h j k d (e.0, p, sym (ap (λ z. z.from) a) ∙ e.2 ∙ ap (λ z. z.from) b, sym (ap (λ z. z.to) a) ∙ e.3 ∙ ap (λ z. z.to) b))
      (λ (p : length xs ≤ k).
      let b = get_or_push xs y d k (omega (arith, e.1)) in
      none j low d (sym (ap (λ z. z.from) a) ∙ e.2 ∙ ap (λ z. z.from) b, sym (ap (λ z. z.to) a) ∙ e.3 ∙ ap (λ z. z.to) b))
      (cases_lt k (length xs))

pub map-removed : {X Y : Type 0} (f : X → Y) (xs : List X) (i : ℕ) → map f (remove xs i) ≡ remove (map f xs) i
map-removed f xs i = map-append f (take i xs) (drop (suc i) xs) ∙ ap (λ z. z ++ map f (drop (suc i) xs)) (sym (take-map f i xs)) ∙ ap (λ z. take i (map f xs) ++ z) (sym (drop-map f (suc i) xs))

pub state_is : {L T : Type 0} (M : Meaning L T) (t : Store L) (u : State M.quantities.Q)
    → map (link_of M) (records t) ≡ u.links → t.n ≡ u.n → t.issued ≡ u.issued → capacity_of t ≡ u.capacity → state_of M t ≡ u
state_is M t u a b c d = same a b c d where
  same : {Q : Type 0} {x y : List (Standard Q)} {m n : ℕ} {p q : Bool} {k l : ℕ} → x ≡ y → m ≡ n → p ≡ q → k ≡ l
      → ◌≡◌ {A = State Q} (record { links = x; n = m; issued = p; capacity = k }) (record { links = y; n = n; issued = q; capacity = l })
  same a b c d = cc

-- a standing record's place
pub low : {L : Type 0} (s : Store L) (P : ℕ → ℕ → Type 0) (at : ℕ) → Held s → Here P (records s) at → at < s.count
low s P at held h = let l = length-take-le s.count s.links.now held.0 in omega (arith, h.0)

module _ {L T : Type 0} (M : Meaning L T) (s t : Store L) (at : ℕ)
    (room : s.count ≤ length s.links.now) (stood : at < s.count)
    (links : t.links.now ≡ remove (records s) at ++ drop (s.count - 1) s.links.now) (count : t.count ≡ s.count - 1) (n : t.n ≡ s.n) (issued : t.issued ≡ s.issued) where
  here : at < length (records s)
  here = let l = length-take-le s.count s.links.now room in omega arith

  front : length (remove (records s) at) ≡ s.count - 1
  front = let l = length-take-le s.count s.links.now room in let r = length-remove (records s) at here in omega arith

  pub struck_records : records t ≡ remove (records s) at
  struck_records = ap (λ z. take z t.links.now) count ∙ ap (take (s.count - 1)) links ∙ take_at (remove (records s) at) _ (s.count - 1) front

  pub struck_length : length t.links.now ≡ length s.links.now
  struck_length =
      let f = front in
      let a = length-append (remove (records s) at) (drop (s.count - 1) s.links.now) in
      let d = length-drop (s.count - 1) s.links.now in
      let e = ap length links in
      omega arith

  pub struck_rest : drop s.count t.links.now ≡ drop s.count s.links.now
  struck_rest =
      let e : s.count ≡ (s.count - 1) + 1 = omega arith in
      ap (λ z. drop z t.links.now) e ∙ sym (drop-drop 1 (s.count - 1) t.links.now) ∙ ap (drop 1) (ap (drop (s.count - 1)) links ∙ drop_at (remove (records s) at) _ (s.count - 1) front)
      ∙ drop-drop 1 (s.count - 1) s.links.now ∙ ap (λ z. drop z s.links.now) (sym e)

  pub struck_held : Held s → Held t
  struck_held h = let e = struck_length in (omega arith, omega arith, omega arith, omega arith)

  pub struck_sound : Sound s.n (records s) → Sound t.n (records t)
  struck_sound h = simp (struck_records, n) (sound-removed s.n (records s) at here h)

  pub struck_single : Single (records s) → Single (records t)
  struck_single h = simp (struck_records) (single-removed (records s) at here h)

  pub struck_fits : ∥ Fits M.quantities (map (link_of M) (records s)) ∥₁ → ∥ Fits M.quantities (map (link_of M) (records t)) ∥₁
  struck_fits h =
      let less : map (link_of M) (records t) ≡ remove (map (link_of M) (records s)) at = ap (map (link_of M)) struck_records ∙ map-removed (link_of M) (records s) at in
      ∥∥₁_map h (λ f. subst (Fits M.quantities) (sym less) ((theory M.quantities (map (link_of M) (records s))).remove at (omega (arith, here, length-map (records s) (link_of M))) f))

  pub struck_next : (i j : ℕ) → Stands M.quantities (state_of M s) i j (suc at) → Next M (state_of M s) (STRIKE i j) done (state_of M t)
  struck_next i j st =
      let P : State M.quantities.Q → Type 0 = λ u. Next M (state_of M s) (STRIKE i j) done u in
      let e = state_is M t (holding M (state_of M s) (remove (state_of M s).links at)) (ap (map (link_of M)) struck_records ∙ map-removed (link_of M) (records s) at) n issued (ap (λ z. min z 8192) struck_length) in
      subst P (sym e) (by_strike i j at st)

module _ {L T : Type 0} (M : Meaning L T) (s t : Store L) (l : Link L)
    (room : s.count < capacity_of s)
    (links : t.links.now ≡ set s.links.now s.count l) (count : t.count ≡ s.count + 1) (n : t.n ≡ s.n) (issued : t.issued ≡ s.issued) where
  place : s.count < length s.links.now
  place = grind arith

  pub added_records : records t ≡ records s ++ l ∷ []
  added_records = ap (λ z. take z t.links.now) count ∙ ap (take (s.count + 1)) links ∙ take_more_set s.links.now s.count l place

  pub added_length : length t.links.now ≡ length s.links.now
  added_length = ap length links ∙ length-set s.links.now s.count l

  pub added_held : Held s → Held t
  added_held h = let e = added_length in let p = place in let q : s.count < 8192 = grind arith in (omega arith, omega arith, omega arith, omega arith)

  pub added_sound : Good s.n l → Sound s.n (records s) → Sound t.n (records t)
  added_sound good h = simp (added_records, n) (sound-push s.n (records s) l h good)

  pub added_fits : Fits M.quantities (map (link_of M) (records s) ++ link_of M l ∷ []) → Fits M.quantities (map (link_of M) (records t))
  added_fits f = subst (Fits M.quantities) (sym (ap (map (link_of M)) added_records ∙ map-append (link_of M) (records s) (l ∷ []))) f

  pub added_single : Nowhere (Joins l.from l.to) (records s) → Single (records s) → Single (records t)
  added_single fresh h = simp (added_records) (single-push (records s) l h fresh)

  pub added_state : state_of M t ≡ holding M (state_of M s) ((state_of M s).links ++ link_of M l ∷ [])
  added_state = state_is M t (holding M (state_of M s) ((state_of M s).links ++ link_of M l ∷ [])) (ap (map (link_of M)) added_records ∙ map_push (link_of M) (records s) l) n issued (ap (λ z. min z 8192) added_length)
