-- What holds of offsets and links, in the subject's words.
use Rattle.std.specs.Prelude.{◌≡◌, ℕ, ◌<◌, ◌≤◌, ◌↔◌, List, [], ◌∷◌, ◌++◌, length, ◌≢◌}
use Rattle.std.specs.List.{remove as removed}
use Rattle.kind.specs.Group.{Quantities}
use Rattle.network.specs.Graph.{Walk, Connected, Joining, Path}
use Rattle.network.specs.declared.Step.{Step}
use Rattle.network.specs.Network.{Equivalent, measured_network, wanted_network}
use Rattle.network.specs.Offsets.{Link, tally, at, graph, Positions, Carried, Carries, Fits, difference}

abbrev pub Linked : (K : Quantities) → List (Link K.Q) → ℕ → ℕ → Type 0
Linked K links i j = Connected (graph K links) (Positions K links) i j

abbrev pub Joins : (K : Quantities) → List (Link K.Q) → ℕ → Type 0
Joins K links = Joining (graph K links) (length links)

abbrev pub Lowest : (K : Quantities) → List (Link K.Q) → ℕ → Type 0
Lowest K links v = (1 ≤ v) × ((u : ℕ) → 1 ≤ u → Linked K links v u → v ≤ u)

pub record Theory (K : Quantities) (links : List (Link K.Q)) : Type 0 where
  -- offsets carry the links exactly when the network as measured and the network as wanted are equivalent
  pub equivalent : Fits K links ↔ Equivalent K (measured_network K links) (wanted_network K links)
  -- what a walk wants, less what it measured, is the difference of the offsets at its ends
  pub walk_law : (c : ℕ → K.Q) → Carries K c links → (i j : ℕ) (steps : List Step) → Walk (graph K links) (Positions K links) i steps j
      → K.plus (tally K (λ p. (at K links p).wanted) steps) (K.minus (tally K (λ p. (at K links p).measured) steps)) ≡ K.plus (c j) (K.minus (c i))
  -- between connected switches all carrying offsets have the same difference
  pub known : (c b : ℕ → K.Q) → Carries K c links → Carries K b links → (i j : ℕ) → Linked K links i j → K.plus (c j) (K.minus (c i)) ≡ K.plus (b j) (K.minus (b i))
  -- between others they have not
  pub free : (c : ℕ → K.Q) → Carries K c links → (i j : ℕ) → (Linked K links i j → ⊥)
      → (b : ℕ → K.Q) × Carries K b links × (K.plus (b j) (K.minus (b i)) ≢ K.plus (c j) (K.minus (c i)))
  -- a new link between groups that are not connected fits
  pub add_apart : (new : Link K.Q) → Fits K links → (Linked K links new.from new.to → ⊥) → Fits K (links ++ new ∷ [])
  -- a new link that closes a walk fits exactly when round it the wanted and the measured totals agree
  pub add_round : (new : Link K.Q) → Fits K links → (steps : List Step) → Walk (graph K links) (Positions K links) new.to steps new.from
      → Fits K (links ++ new ∷ []) ↔ (K.plus (difference K new) (tally K (λ p. difference K (at K links p)) steps) ≡ K.zero)
  -- offsets that carry the joining links carry all of a list that fits; joining links connect what all links connect, by one path
  pub joining_suffice : Fits K links → (b : ℕ → K.Q) → ((p : ℕ) → Joins K links p → Carried K b (at K links p)) → Carries K b links
  pub joining_connect : (i j : ℕ) → Linked K links i j ↔ Connected (graph K links) (Joins K links) i j
  -- offsets that are zero at the lowest switch of every group are the only ones
  pub one_grounded : (c b : ℕ → K.Q) → Carries K c links → Carries K b links
      → ((v : ℕ) → Lowest K links v → c v ≡ K.zero) → ((v : ℕ) → Lowest K links v → b v ≡ K.zero) → (v : ℕ) → 1 ≤ v → c v ≡ b v
  pub one_path : (i j : ℕ) (ss ts : List Step) → Path (graph K links) (Joins K links) i ss j → Path (graph K links) (Joins K links) i ts j → ss ≡ ts
  -- what fits still fits with a link taken out; no links fit
  pub remove : (p : ℕ) → p < length links → Fits K links → Fits K (removed links p)
  pub none : Fits K []
