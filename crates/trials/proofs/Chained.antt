-- Links in ticks from switch 1 to 2 and on to 3, and a third one from 1 to 3.
use Rattle.std.proofs.Common.{◌≡◌, ℕ, ◌<◌, ◌≤◌, List, [], ◌∷◌, ℤ, pos, negsuc, refl, subst, arith, Ok, Err}
use Rattle.std.proofs.lemmas.Int.{ints}
use Rattle.std.proofs.lemmas.Bool.{false≢true}
use Rattle.kind.specs.Group.{Quantities}
use Rattle.kinds.specs.TickLaws.{tick_meaning}
use Rattle.kinds.specs.declared.ticks.TickLatency.{TickLatency}
use Rattle.network.specs.declared.Step.TheVariants.{Backward}
use Rattle.network.specs.Graph.{Graph, Before, Joining, Path}
use Rattle.network.specs.Offsets.{Link, graph, Fits}
use Rattle.calls.specs.declared.Refusal.TheVariants.{Contradicts}
use Rattle.calls.specs.State.{LINK, STRIKE, done}
use Rattle.calls.specs.Calls.{yields, struck, by_strike}
use Rattle.calls.specs.Verdicts.{Ready}
use Rattle.book.specs.declared.store.Store.{Store}
use Rattle.trials.specs.Outcomes.{Outcome, edge, holds, lent, Came, Reached}
use Rattle.trials.proofs.Course.{takes, enters, contradicts, first_enters}
use Rattle.trials.proofs.Listed.{stays, first_joins, fits_by, is_ready}

abbrev K : Quantities
K = tick_meaning.quantities

abbrev first : Link ℤ
first = edge 1 2 (pos 5) (pos 6)

abbrev second : Link ℤ
second = edge 2 3 (negsuc 1) (pos 0)

abbrev third : ℤ → Link ℤ
third wanted = edge 1 3 (pos 4) wanted

abbrev g : Graph
g = graph K (first ∷ second ∷ [])

-- over the first link alone no walk leaves the switches 1 and 2
second_joins : Joining g 2 2
second_joins =
    let P : ℕ → Type 0 = λ p. (g.from p ≤ 2) × (g.to p ≤ 2) in
    let low : (p : ℕ) → Before 2 p → P p = λ p h. let e : 1 ≡ p = omega arith in subst P e (omega arith) in
    (omega arith, omega arith, λ c. omega (arith, stays g (Before 2) (λ v. v ≤ 2) low 2 c.0 3 c.1 (omega arith)))

way_back : Path g (Joining g 2) 3 (Backward 2 ∷ Backward 1 ∷ []) 1
way_back = ((refl, second_joins, (refl, first_joins g 2 (omega arith) (λ e. omega arith), refl)), (((λ e. omega arith), ((λ e. omega arith), tt)), (((λ e. omega arith), tt), (tt, tt))))

too_late : Fits K (first ∷ second ∷ third (pos 8) ∷ []) → ⊥
too_late (c, m) = omega (arith, ints, m 1 (omega arith), m 2 (omega arith), m 3 (omega arith))

-- the second link and the third are ready, where those before them stand
module _ {room : ℕ} (enough : 6 ≤ room) where
  after_one : (l : Link ℤ) → (1 ≤ l.from) × (l.from < 3) × (l.to ≡ 3) → Ready tick_meaning (holds 3 (first ∷ [])) l (lent room)
  after_one l h = is_ready tick_meaning 3 room (first ∷ []) l (omega arith) enough (omega arith) (omega arith) (λ e. omega arith) ((λ e. omega arith), tt)

  after_two : (wanted : ℤ) → Ready tick_meaning (holds 3 (first ∷ second ∷ [])) (third wanted) (lent room)
  after_two wanted = is_ready tick_meaning 3 room (first ∷ second ∷ []) (third wanted) (omega arith) enough (omega arith) (omega arith) (λ e. omega arith) ((λ e. omega arith), ((λ e. omega arith), tt))

abbrev Holds : Store TickLatency → List (Link ℤ) → Type 0
Holds b links = Reached tick_meaning b (holds 3 links)

module _ {b t : Store TickLatency} {o : Outcome} {room : ℕ} (enough : 6 ≤ room) where
  pub one_enters : Holds b [] → Came tick_meaning b (LINK first (lent room)) o t → (o ≡ Ok tt) × Holds t (first ∷ [])
  one_enters at came = first_enters tick_meaning 3 at came (is_ready tick_meaning 3 room [] first (omega arith) enough (omega arith) (omega arith) (λ e. omega arith) tt)

  pub two_enters : Holds b (first ∷ []) → Came tick_meaning b (LINK second (lent room)) o t → (o ≡ Ok tt) × Holds t (first ∷ second ∷ [])
  two_enters at came = enters tick_meaning 3 (first ∷ []) at came (after_one enough second (omega arith)) (fits_by tick_meaning (pos 0 ∷ pos 1 ∷ pos 3 ∷ []) (first ∷ second ∷ []) (refl, (refl, tt)))

  pub closing_enters : Holds b (first ∷ second ∷ []) → Came tick_meaning b (LINK (third (pos 7)) (lent room)) o t → (o ≡ Ok tt) × Holds t (first ∷ second ∷ third (pos 7) ∷ [])
  closing_enters at came =
      enters tick_meaning 3 (first ∷ second ∷ []) at came (after_two enough (pos 7)) (fits_by tick_meaning (pos 0 ∷ pos 1 ∷ pos 3 ∷ []) (first ∷ second ∷ third (pos 7) ∷ []) (refl, (refl, (refl, tt))))

  pub late_contradicts : Holds b (first ∷ second ∷ []) → Came tick_meaning b (LINK (third (pos 8)) (lent room)) o t → o ≡ Err (record { refusal = Contradicts; steps = 2; words = 0xB000_0002 ∷ 0xB000_0001 ∷ 0 ∷ [] })
  late_contradicts at came =
      contradicts tick_meaning 3 (first ∷ second ∷ []) at came (after_two enough (pos 8)) too_late (Backward 2 ∷ Backward 1 ∷ [])
      ((λ _. way_back), λ n. absurd (n (Backward 2 ∷ Backward 1 ∷ [], (refl, omega arith, (refl, omega arith, refl)))))

  -- without the second link it fits
  pub late_enters : Holds b (first ∷ []) → Came tick_meaning b (LINK (third (pos 8)) (lent room)) o t → o ≡ Ok tt
  late_enters at came = (enters tick_meaning 3 (first ∷ []) at came (after_one enough (third (pos 8)) (omega arith)) (fits_by tick_meaning (pos 0 ∷ pos 1 ∷ pos 4 ∷ []) (first ∷ third (pos 8) ∷ []) (refl, (refl, tt)))).0

pub second_struck : {b t : Store TickLatency} {o : Outcome} → Holds b (first ∷ second ∷ []) → Came tick_meaning b (STRIKE 2 3) o t → (o ≡ Ok tt) × Holds t (first ∷ [])
second_struck at came =
    takes tick_meaning (holds 3 (first ∷ second ∷ [])) at came (holds 3 (first ∷ []))
    (yields done (false≢true, ((λ f. f (omega arith)), ((λ f. f (2, (omega arith, refl, refl))), tt))) (struck 2 3)) (by_strike 2 3 1 (omega arith, refl, refl))
