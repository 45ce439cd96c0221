-- What a refusal leaves in a step row of zeros.
use Rattle.std.proofs.Common.{◌≡◌, ℕ, ◌-◌, ◌≤◌, List, ◌++◌, map, length, take, drop, replicate, Ok, Err, Result, MatchResult, sym, ap, ◌∙◌}
use Rattle.std.proofs.lemmas.List.{length-map, length-take-le, take-append-drop, drop-replicate}
use Rattle.network.specs.declared.Step.{Step}
use Rattle.network.specs.Words.{word, steps_of}
use Rattle.calls.specs.declared.Refusal.{Refusal}
use Rattle.book.specs.declared.store.Refused.{Refused}
use Rattle.book.specs.Memory.{RowsLeft, shown_answer}
use Rattle.trials.specs.Outcomes.{row, told, Outcome}

module _ (shown : ℕ) (left : List ℕ) (steps : List Step) (room : shown ≤ length left) (words : take shown left ≡ map word steps) (rest : drop shown left ≡ drop shown (replicate 3 0)) where
  count : shown ≡ length steps
  count = sym (length-take-le shown left room) ∙ ap length words ∙ length-map steps word

  whole : left ≡ row steps
  whole =
      sym (take-append-drop shown left) ∙ ap (λ xs. xs ++ drop shown left) words ∙ ap (λ xs. map word steps ++ xs) (rest ∙ drop-replicate shown 3 0)
      ∙ ap (λ n. map word steps ++ replicate (3 - n) 0) count

  pub row_told : (e : Refusal) → ◌≡◌ {A = Outcome} (Err (record { refusal = e; steps = shown; words = left })) (Err (record { refusal = e; steps = length steps; words = row steps }))
  row_told e = let a = count in let b = whole in cc

-- the outcome of a call, with the step row that it left
abbrev pub Shows : Result (Unit {0}) Refused → List ℕ → Outcome → Type 0
Shows r left o = MatchResult r (λ x. o ≡ Ok x) (λ e. o ≡ Err (record { refusal = e.refusal; steps = e.shown; words = left }))

-- it is the one of the answer
pub tells : (Q : Type 0) {T : Type 0} {n : ℕ} {ts ts' : List T} {ns ns' left : List ℕ} (r : Result (Unit {0}) Refused) (o : Outcome) → Shows r left o → RowsLeft n r ts ts' ns ns' (replicate 3 0) left → o ≡ told {Q = Q} (shown_answer r left)
tells Q (Ok u) o e rows = e
tells Q {left = left} (Err e) o h rows = h ∙ row_told e.shown left (steps_of (take e.shown left)) rows.room rows.words rows.steps e.refusal
