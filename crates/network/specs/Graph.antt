-- Switches joined by links: walks, what is connected, joining links, paths.
use Rattle.std.specs.Prelude.{◌≡◌, ℕ, ◌<◌, ◌≤◌, List, [], ◌∷◌, ◌≢◌}
use Rattle.std.specs.List.{AllByRecursion}
use Rattle.network.specs.declared.Step.{Step}
use Rattle.network.specs.declared.Step.TheVariants.{Forward, Backward}

-- the switches at the two ends of the link at each place
pub record Graph : Type 0 where
  pub from : ℕ → ℕ
  pub to : ℕ → ℕ

-- A step passes the link at a place, from its first end to its second, or back: the code's enum `Step`.
abbrev pub place : Step → ℕ
place (Forward p) = p
place (Backward p) = p

abbrev pub start : Graph → Step → ℕ
start g (Forward p) = g.from p
start g (Backward p) = g.to p

abbrev pub end : Graph → Step → ℕ
end g (Forward p) = g.to p
end g (Backward p) = g.from p

-- the steps lead from i to j, each from where the one before ended, and pass only links at the places `among`
abbrev pub Walk : Graph → (ℕ → Type 0) → ℕ → List Step → ℕ → Type 0
Walk g among i [] j = i ≡ j
Walk g among i (s ∷ ss) j = (start g s ≡ i) × among (place s) × Walk g among (end g s) ss j

abbrev pub Connected : Graph → (ℕ → Type 0) → ℕ → ℕ → Type 0
Connected g among i j = (steps : List Step) × Walk g among i steps j

abbrev pub Upto : ℕ → ℕ → Type 0
Upto k p = (1 ≤ p) × (p ≤ k)

abbrev pub Before : ℕ → ℕ → Type 0
Before p q = (1 ≤ q) × (q < p)

-- a joining link of the first k: no walk over earlier links leads from its one end to its other
abbrev pub Joining : Graph → ℕ → ℕ → Type 0
Joining g k p = (1 ≤ p) × (p ≤ k) × (Connected g (Before p) (g.from p) (g.to p) → ⊥)

-- the switches that steps from i pass, i first
abbrev pub switches : Graph → ℕ → List Step → List ℕ
switches g i [] = i ∷ []
switches g i (s ∷ ss) = i ∷ switches g (end g s) ss

abbrev pub Distinct : List ℕ → Type 0
Distinct [] = Unit {0}
Distinct (x ∷ xs) = AllByRecursion (λ y. y ≢ x) xs × Distinct xs

-- a walk with no switch twice
abbrev pub Path : Graph → (ℕ → Type 0) → ℕ → List Step → ℕ → Type 0
Path g among i steps j = Walk g among i steps j × Distinct (switches g i steps)

abbrev pub reverse : Step → Step
reverse (Forward p) = Backward p
reverse (Backward p) = Forward p
