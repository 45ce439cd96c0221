-- The way up from a switch, a step at a time.
use Rattle.std.proofs.Common.{◌≡◌, ℕ, suc, ◌+◌, ◌<◌, ◌≤◌, List, [], ◌∷◌, ◌++◌, map, length, take, drop, set, Some, None, Option, sym, refl, ap, ◌∙◌, subst, append-nil, add-one, arith, length-append, drop-drop, take-suc-set, drop-set-lt}
use lib.Seq.{append_snoc}
use Rattle.std.proofs.lemmas.List.{map-append}
use Rattle.network.specs.declared.Step.{Step}
use Rattle.network.specs.Graph.{Graph, place, end, Joining}
use Rattle.network.specs.Climb.{Climb, Forest}
use Rattle.network.specs.Climb.{ups}
use Rattle.network.specs.Words.{word}
use Rattle.search.specs.Parents.{parents}
use Rattle.search.specs.Records.{On}
use Rattle.search.specs.Written.{Written}
use Rattle.search.proofs.Wiring.{Wired}
use Rattle.search.proofs.Climbs.{climb_short, up_on, up_less}

pub nothing : (row : List ℕ) → Written row row 0 []
nothing row = record { count = refl; front = refl; rest = refl }

pub more : (row row' : List ℕ) (m w : ℕ) (xs : List Step) (s : Step) → Written row row' m xs → m < length row' → w ≡ word s → Written row (set row' m w) (m + 1) (xs ++ (s ∷ []))
more row row' m w xs s h l e =
    record {
      count = length-append xs (s ∷ []) ∙ omega (arith, h.count);
      front = ap (λ i. take i (set row' m w)) (add-one m) ∙ take-suc-set row' m w l ∙ ap (λ ys. ys ++ (w ∷ [])) h.front ∙ ap (λ a. map word xs ++ (a ∷ [])) e ∙ sym (map-append word xs (s ∷ []));
      rest = drop-set-lt (m + 1) row' m w (omega arith) ∙ sym (drop-drop 1 m row') ∙ ap (drop 1) h.rest ∙ drop-drop 1 m row;
    }

-- so far the steps xs lead from v up to x
abbrev pub Leads : Graph → (ℕ → Option Step) → ℕ → List Step → ℕ → Type 0
Leads g up v xs x = (r : ℕ) (ss : List Step) → Climb g up x ss r → Climb g up v (xs ++ ss) r

module _ (g : Graph) (k n : ℕ) (z : Wired g k n) (row : List ℕ) (f : Forest g k (parents row)) (x : ℕ) (o : On n x) (s : Step) (e : Some s ≡ parents row x) where
  here : parents row x ≡ Some s
  here = sym e

  pub joins : Joining g k (place s)
  joins = (f.points x s here).1

  pub next_on : (y : ℕ) → y ≡ end g s → On n y
  next_on y p = subst (On n) (sym p) (up_on g k n z (parents row) f x o s here)

  pub next_less : (y : ℕ) → y ≡ end g s → length (ups g (parents row) n y) < length (ups g (parents row) n x)
  next_less y p = subst (λ y. length (ups g (parents row) n y) < length (ups g (parents row) n x)) (sym p) (up_less g k n z (parents row) f x o s here)

  pub leads_on : (v : ℕ) (xs : List Step) (y : ℕ) → y ≡ end g s → Leads g (parents row) v xs x → Leads g (parents row) v (xs ++ (s ∷ [])) y
  leads_on v xs y p h r ss c = subst (λ ts. Climb g (parents row) v ts r) (sym (append_snoc xs s ss)) (h r (s ∷ ss) (here, subst (λ y. Climb g (parents row) y ss r) p c))

  -- the steps so far, and this one, are fewer than the switches
  pub fewer_yet : (v : ℕ) (xs : List Step) → On n v → Leads g (parents row) v xs x → suc (length xs) < n
  fewer_yet v xs l h =
      let c = f.climbs (end g s) in
      let b = climb_short g k n z (parents row) f.points v (xs ++ (s ∷ c.0)) c.1 (h c.1 (s ∷ c.0) (here, c.2)) l in
      omega (arith, length-append xs (s ∷ c.0), b)

pub at_root : (g : Graph) (row : List ℕ) (v x : ℕ) (xs : List Step) → 1 ≤ x → None ≡ parents row x → Leads g (parents row) v xs x → Climb g (parents row) v xs x
at_root g row v x xs o e h = subst (λ ts. Climb g (parents row) v ts x) (append-nil xs) (h x [] (refl, sym e))
