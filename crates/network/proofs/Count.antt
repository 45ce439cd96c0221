-- A climb is no longer than there are switches, so its length can be computed.
use Rattle.std.proofs.Common.{◌≡◌, ℕ, zero, suc, ◌<◌, ◌≤◌, List, [], ◌∷◌, length, Option, refl, ap, ◌∙◌, subst, arith}
use native.Mathlib.Decide.{ℕ_discrete}
use Rattle.std.specs.List.{AllByRecursion}
use Rattle.network.specs.declared.Step.{Step}
use Rattle.network.specs.Graph.{Graph, end, switches, Distinct}
use Rattle.network.specs.Climb.{Climb, ups, onward}

-- xs without its n, which it has at most once
module _ (n : ℕ) where
  abbrev Less : List ℕ → Type 0
  Less xs = (ys : List ℕ) × (length xs ≤ suc (length ys)) × Distinct ys × AllByRecursion (λ y. y < n) ys × ((x : ℕ) → AllByRecursion (λ y. y ≡ x → ⊥) xs → AllByRecursion (λ y. y ≡ x → ⊥) ys)

  below : (xs : List ℕ) → AllByRecursion (λ y. y < suc n) xs → AllByRecursion (λ y. y ≡ n → ⊥) xs → AllByRecursion (λ y. y < n) xs
  below [] a b = tt
  below (x ∷ xs) (a, c) (b, e) = (omega arith, below xs c e)

  less : (xs : List ℕ) → Distinct xs → AllByRecursion (λ y. y < suc n) xs → Less xs
  less [] d a = ([], omega arith, tt, tt, λ x h. tt)
  less (x ∷ xs) (m, d) (l, a) = go (ℕ_discrete x n) (less xs d a)
    where
      go : Dec (x ≡ n) → Less xs → Less (x ∷ xs)
      go (yes e) r = (xs, omega arith, d, below xs a (subst (λ y. AllByRecursion (λ z. z ≡ y → ⊥) xs) e m), λ y h. h.1)
      go (no e) (ys, s, dy, ay, k) = (x ∷ ys, omega arith, (k x m, dy), (omega arith, ay), λ y h. (h.0, k y h.1))

pub pigeons : (n : ℕ) (xs : List ℕ) → Distinct xs → AllByRecursion (λ y. y < n) xs → length xs ≤ n
pigeons zero [] d a = omega arith
pigeons zero (x ∷ xs) d (l, a) = omega arith
pigeons (suc n) xs d a = let r = less n xs d a in let h : length r.0 ≤ n = pigeons n r.0 r.2 r.3 in omega (arith, r.1)

length-switches : (g : Graph) (v : ℕ) (ss : List Step) → length (switches g v ss) ≡ suc (length ss)
length-switches g v [] = refl
length-switches g v (s ∷ ss) = ap suc (length-switches g (end g s) ss)

pub climb_ups : (g : Graph) (up : ℕ → Option Step) (n v : ℕ) (ss : List Step) (r : ℕ) → Climb g up v ss r → length ss ≤ n → ups g up n v ≡ ss
climb_ups g up zero v [] r c l = refl
climb_ups g up zero v (s ∷ ss) r c l = absurd (omega arith)
climb_ups g up (suc n) v [] r (a, b) l = ap (onward (λ s. ups g up n (end g s))) b
climb_ups g up (suc n) v (s ∷ ss) r (a, b) l = ap (onward (λ s. ups g up n (end g s))) a ∙ ap (λ xs. s ∷ xs) (climb_ups g up n (end g s) ss r b (omega arith))
