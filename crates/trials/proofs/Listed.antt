-- What holds of links that are written out.
use Rattle.std.proofs.Common.{◌≡◌, ℕ, zero, suc, ◌*◌, ◌<◌, ◌≤◌, List, [], ◌∷◌, length, get_or, sym, refl, subst, arith}
use Rattle.std.proofs.lemmas.List.Elements.{All-from_recursion}
use Rattle.std.specs.List.{AllByRecursion}
use Rattle.kind.specs.Meaning.{Meaning}
use Rattle.network.specs.declared.Step.{Step}
use Rattle.network.specs.declared.Step.TheVariants.{Forward, Backward}
use Rattle.network.specs.Graph.{Graph, place, end, Walk, Before, Joining}
use Rattle.network.specs.Offsets.{Link, at, Positions, Carried, Fits}
use Rattle.calls.specs.State.{Inside}
use Rattle.calls.specs.Verdicts.{Ready}
use Rattle.trials.specs.Outcomes.{holds, lent}

-- a walk over links whose ends both have a property ends where it holds
pub stays : (g : Graph) (A P : ℕ → Type 0) → ((p : ℕ) → A p → P (g.from p) × P (g.to p)) → (i : ℕ) (ss : List Step) (j : ℕ) → Walk g A i ss j → P i → P j
stays g A P f i [] j e h = subst P e h
stays g A P f i (s ∷ ss) j (e, a, w) h = stays g A P f (end g s) ss j w (far s a)
  where
    far : (s : Step) → A (place s) → P (end g s)
    far (Forward p) a = (f p a).1
    far (Backward p) a = (f p a).0

pub first_joins : (g : Graph) (k : ℕ) → 1 ≤ k → (g.from 1 ≡ g.to 1 → ⊥) → Joining g k 1
first_joins g k h n = (omega arith, h, λ c. n (sym (stays g (Before 1) (λ v. v ≡ g.from 1) (λ p u. absurd (omega arith)) (g.from 1) c.0 (g.to 1) c.1 refl)))

module _ {L T : Type 0} (M : Meaning L T) where
  abbrev Q : Type 0
  Q = M.quantities.Q

  each : (P : Link Q → Type 0) (links : List (Link Q)) → AllByRecursion P links → (p : ℕ) → Positions M.quantities links p → P (at M.quantities links p)
  each P links h zero u = absurd (omega arith)
  each P links h (suc p) u = All-from_recursion P links h p _ (omega arith)

  -- the offsets in a list, that of switch 1 first
  abbrev listed : List Q → ℕ → Q
  listed offsets v = get_or (M.quantities.zero ∷ offsets) v M.quantities.zero

  pub fits_by : (offsets : List Q) (links : List (Link Q)) → AllByRecursion (Carried M.quantities (listed offsets)) links → Fits M.quantities links
  fits_by offsets links h = (listed offsets, each (Carried M.quantities (listed offsets)) links h)

  abbrev Other : Link Q → Link Q → Type 0
  Other l k = (k.from ≡ l.from) × (k.to ≡ l.to) → ⊥

  -- on up to three switches, with room for one link more
  pub is_ready : (n room : ℕ) (links : List (Link Q)) (l : Link Q) → n ≤ 3 → 2 * n ≤ room → length links < 3 → Inside n (l.from ∷ l.to ∷ []) → (l.from ≡ l.to → ⊥) → AllByRecursion (Other l) links → Ready M (holds n links) l (lent room)
  is_ready n room links l few enough short inside apart new = record {
    unissued = refl;
    inside = inside;
    apart = apart;
    new = λ s. each (Other l) links new s.0 s.1.0 (s.1.1, s.1.2);
    room = short;
    enough = (enough, omega arith, few);
  }
