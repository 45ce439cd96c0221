-- What a book holds, the nine calls on it, their answers, and how a list of checks is read.
use Rattle.std.specs.Prelude.{◌≡◌, ℕ, ◌*◌, ◌≤◌, Bool, ◌⊎◌, List, [], ◌∷◌}
use Rattle.network.specs.Offsets.{Link}
use Rattle.network.specs.declared.Step.{Step}
use Rattle.calls.specs.declared.Refusal.{Refusal}

-- its standing links in order, the number of switches, whether it is issued, and how many links it has room for
pub record State (Q : Type 0) : Type 0 where
  pub links : List (Link Q)
  pub n : ℕ
  pub issued : Bool
  pub capacity : ℕ

-- how many places the lent rows have
pub record Rows : Type 0 where
  pub totals : ℕ
  pub numbers : ℕ
  pub steps : ℕ

pub data Call (Q : Type 0) : Type 0 where
  SIZE : ℕ → Call Q
  LINK : Link Q → Rows → Call Q
  STRIKE : ℕ → ℕ → Call Q
  OFFSET : ℕ → ℕ → Rows → Call Q
  OFFSETS : Rows → Call Q
  REALISE : Rows → Call Q
  WALK : List ℕ → Call Q
  ISSUE : Call Q
  RECALL : Call Q

pub data Answer (Q : Type 0) : Type 0 where
  done : Answer Q
  total : Q → Answer Q
  totals : Q → Q → Answer Q
  offsets : (ℕ → Q) → Answer Q
  refused : Refusal → List Step → Answer Q

abbrev pub Inside : ℕ → List ℕ → Type 0
Inside n [] = Unit {0}
Inside n (i ∷ is) = (1 ≤ i) × (i ≤ n) × Inside n is

-- the rows have the places that a call on n switches needs
abbrev pub Enough : ℕ → Rows → Type 0
Enough n rows = (2 * n ≤ rows.totals) × (4 * n ≤ rows.numbers) × (n ≤ rows.steps)

-- a reason to turn a call down: when it applies, and what steps are then shown
pub record Check : Type 1 where
  pub refusal : Refusal
  pub applies : Type 0
  pub shows : List Step → Type 0

infix 20 ◌when◌
abbrev pub ◌when◌ : Refusal → Type 0 → Check
◌when◌ e p = record { refusal = e; applies = p; shows = λ steps. steps ≡ [] }

abbrev pub showing : Refusal → Type 0 → (List Step → Type 0) → Check
showing e p f = record { refusal = e; applies = p; shows = f }

-- the first check that applies is e's, and the steps are those that it shows
abbrev pub First : List Check → Refusal → List Step → Type 0
First [] e steps = ⊥
First (x ∷ xs) e steps = ((x.refusal ≡ e) × x.applies × x.shows steps) ⊎ ((x.applies → ⊥) × First xs e steps)

abbrev pub Passes : List Check → Type 0
Passes [] = Unit {0}
Passes (x ∷ xs) = (x.applies → ⊥) × Passes xs
