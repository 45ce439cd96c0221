-- What an outcome tells of a call on a book.
use Rattle.std.specs.Prelude.{◌≡◌, ℕ, ◌-◌, false, List, [], ◌∷◌, ◌++◌, map, length, replicate, ℤ, pos, Some, None, Ok, Err, Option, Result}
use Rattle.kind.specs.Meaning.{Meaning}
use Rattle.network.specs.declared.Step.{Step}
use Rattle.network.specs.Offsets.{Link}
use Rattle.network.specs.Words.{word}
use Rattle.search.specs.declared.link.Link.{Link as Record}
use Rattle.calls.specs.State.{State, Rows, Call, LINK, Answer, done, total, totals, offsets, refused}
use Rattle.calls.specs.Calls.{Ran}
use Rattle.book.specs.declared.store.Store.{Store}
use Rattle.book.specs.Memory.{state_of, Answered}
use Rattle.trials.specs.declared.outcome.ShownRefusal.{ShownRefusal}

-- a step row of zeros with the words of the steps at its start
abbrev pub row : List Step → List ℕ
row steps = map word steps ++ replicate (3 - length steps) 0

-- what comes of a call
abbrev pub Outcome : Type 0
Outcome = Result (Unit {0}) ShownRefusal

-- the outcome of an answer
abbrev pub told : {Q : Type 0} → Answer Q → Outcome
told done = Ok tt
told (total q) = Ok tt
told (totals m w) = Ok tt
told (offsets c) = Ok tt
told (refused e steps) = Err (record { refusal = e; steps = length steps; words = row steps })

abbrev pub edge : {Q : Type 0} → ℕ → ℕ → Q → Q → Link Q
edge from to measured wanted = record { from = from; to = to; measured = measured; wanted = wanted }

-- a book with room for three links
abbrev pub holds : {Q : Type 0} → ℕ → List (Link Q) → State Q
holds n links = record { links = links; n = n; issued = false; capacity = 3 }

-- the rows that LINK is lent
abbrev pub lent : ℕ → Rows
lent n = record { totals = n; numbers = 12; steps = 3 }

module _ {L T : Type 0} (M : Meaning L T) where
  abbrev Q : Type 0
  Q = M.quantities.Q

  abbrev given : Option Q → Q
  given (Some q) = q
  given None = M.quantities.zero

  -- the quantity of the latency that a number makes
  abbrev pub quantity : ℤ → Q
  quantity z = given (M.reads z)

  -- the link whose latencies these numbers make
  abbrev pub numbered : Record ℤ → Link Q
  numbered r = edge r.from r.to (quantity r.measured) (quantity r.wanted)

  -- the call was answered, and this is the outcome
  pub record Came (s : Store L) (c : Call Q) (o : Outcome) (t : Store L) : Type 0 where
    pub answer : Answer Q
    pub answered : Answered M s c answer t
    pub tells : o ≡ told answer

  -- calls on a new book have led to this state
  abbrev pub Reached : Store L → State Q → Type 0
  Reached t s = (state_of M t ≡ s) × ((h : List (Call Q × Answer Q)) × Ran M h s)

  -- after a size and a first link that were taken, from switch 1 to 2, this came of one from 2 to 1
  pub record Returned (outcomes : List Outcome) : Type 0 where
    pub before : Store L
    pub after : Store L
    pub back : Outcome
    pub taken : outcomes ≡ Ok tt ∷ Ok tt ∷ back ∷ []
    pub out : Reached before (holds 2 (edge 1 2 (quantity (pos 0)) (quantity (pos 600)) ∷ []))
    pub came : Came before (LINK (edge 2 1 (quantity (pos 0)) (quantity (pos 400))) (lent 4)) back after
