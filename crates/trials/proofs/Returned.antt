-- A link from switch 1 to 2, and one back.
use Rattle.std.proofs.Common.{◌≡◌, ℕ, ◌≤◌, [], ◌∷◌, ℤ, pos, refl, arith, Ok, Err}
use Rattle.std.proofs.lemmas.Int.{ints}
use Rattle.kind.specs.Meaning.{Meaning}
use Rattle.kinds.specs.Places.{Place, around}
use Rattle.kinds.specs.PlaceLaws.{place_meaning, same_number}
use Rattle.kinds.specs.TickLaws.{tick_meaning}
use Rattle.kinds.specs.declared.places.PlaceLatency.{PlaceLatency}
use Rattle.kinds.specs.declared.ticks.TickLatency.{TickLatency}
use Rattle.network.specs.declared.Step.TheVariants.{Forward}
use Rattle.network.specs.Offsets.{Link, graph, Fits}
use Rattle.calls.specs.declared.Refusal.TheVariants.{Contradicts}
use Rattle.calls.specs.State.{LINK}
use Rattle.calls.specs.Verdicts.{Ready}
use Rattle.book.specs.declared.store.Store.{Store}
use Rattle.trials.specs.Outcomes.{Outcome, edge, holds, lent, Came, Reached}
use Rattle.trials.proofs.Course.{enters, contradicts, first_enters}
use Rattle.trials.proofs.Listed.{first_joins, fits_by, is_ready}

module _ {L T : Type 0} (M : Meaning L T) {m w : M.quantities.Q} {room : ℕ} (enough : 4 ≤ room) where
  pub out_enters : {b t : Store L} {o : Outcome} → Reached M b (holds 2 []) → Came M b (LINK (edge 1 2 m w) (lent room)) o t → (o ≡ Ok tt) × Reached M t (holds 2 (edge 1 2 m w ∷ []))
  out_enters at came = first_enters M 2 at came (is_ready M 2 room [] (edge 1 2 m w) (omega arith) enough (omega arith) (omega arith) (λ e. omega arith) tt)

  back_ready : (x y : M.quantities.Q) → Ready M (holds 2 (edge 1 2 m w ∷ [])) (edge 2 1 x y) (lent room)
  back_ready x y = is_ready M 2 room (edge 1 2 m w ∷ []) (edge 2 1 x y) (omega arith) enough (omega arith) (omega arith) (λ e. omega arith) ((λ e. omega arith), tt)

abbrev out : Link ℤ
out = edge 1 2 (pos 0) (pos 600)

abbrev home : Link ℤ
home = edge 2 1 (pos 0) (pos 400)

too_much : Fits tick_meaning.quantities (out ∷ home ∷ []) → ⊥
too_much (c, m) = omega (arith, ints, m 1 (omega arith), m 2 (omega arith))

pub ticks_contradict : {b t : Store TickLatency} {o : Outcome} {room : ℕ} → 4 ≤ room → Reached tick_meaning b (holds 2 (out ∷ [])) → Came tick_meaning b (LINK home (lent room)) o t → o ≡ Err (record { refusal = Contradicts; steps = 1; words = 0xA000_0001 ∷ 0 ∷ 0 ∷ [] })
ticks_contradict enough at came =
    let g = graph tick_meaning.quantities (out ∷ []) in
    contradicts tick_meaning 2 (out ∷ []) at came (back_ready tick_meaning enough (pos 0) (pos 400)) too_much (Forward 1 ∷ [])
    ((λ _. ((refl, first_joins g 1 (omega arith) (λ e. omega arith), refl), (((λ e. omega arith), tt), (tt, tt)))), λ n. absurd (n (Forward 1 ∷ [], (refl, omega arith, refl))))

abbrev place_out : Link Place
place_out = edge 1 2 (around 0) (around 600)

abbrev place_home : Link Place
place_home = edge 2 1 (around 0) (around 400)

pub places_enter : {b t : Store PlaceLatency} {o : Outcome} {room : ℕ} → 4 ≤ room → Reached place_meaning b (holds 2 (place_out ∷ [])) → Came place_meaning b (LINK place_home (lent room)) o t → o ≡ Ok tt
places_enter enough at came =
    (enters place_meaning 2 (place_out ∷ []) at came (back_ready place_meaning enough (around 0) (around 400))
    (fits_by place_meaning (around 0 ∷ around 600 ∷ []) (place_out ∷ place_home ∷ []) (same_number _ _ refl, (same_number _ _ refl, tt)))).0
