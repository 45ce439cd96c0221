-- A walk under way: what has been read, and what it comes to.
use Rattle.std.specs.Prelude.{◌≡◌, ℕ, ◌≤◌, ◌⊎◌, List, [], ◌∷◌, ◌++◌, length, Some, None, Ok, Err, Option, Result, ◌≢◌}
use Rattle.kind.specs.Group.{Quantities}
use Rattle.kind.specs.Meaning.{Meaning}
use Rattle.network.specs.Graph.{Upto, place, start}
use Rattle.network.specs.declared.Step.{Step}
use Rattle.network.specs.declared.Step.TheVariants.{Forward, Backward}
use Rattle.calls.specs.declared.Refusal.{Refusal}
use Rattle.calls.specs.declared.Refusal.TheVariants.{NoSuchStep, BrokenWalk}
use Rattle.search.specs.declared.link.Link.{Link}
use Rattle.book.specs.declared.trip.Leg.{Leg}
use Rattle.book.specs.declared.trip.Trip.{Trip}
use Rattle.network.specs.Words.{word}
use Rattle.calls.specs.State.{State}
use Rattle.calls.specs.Standing.{plan, ReadAs, Reads, measured, wanted}

-- the step that a word names among count links, if there is one
abbrev pub Named : ℕ → ℕ → Option Step → Type 0
Named count w (Some st) = (w ≡ word st) × Upto count (place st)
Named count w None = (st : Step) → w ≡ word st → Upto count (place st) → ⊥

-- what a step over a link takes of its quantity, where it begins and ends
abbrev pub signed : (K : Quantities) → Step → K.Q → K.Q
signed K (Forward p) q = q
signed K (Backward p) q = K.minus q

abbrev pub near : {L : Type 0} → Step → Link L → ℕ
near (Forward p) l = l.from
near (Backward p) l = l.to

abbrev pub far : {L : Type 0} → Step → Link L → ℕ
far (Forward p) l = l.to
far (Backward p) l = l.from

pub record LegOf {L T : Type 0} (M : Meaning L T) (st : Step) (l : Link L) (r : Leg T) : Type 0 where
  pub start : r.start ≡ near st l
  pub end : r.end ≡ far st l
  pub measured : M.total r.measured ≡ signed M.quantities st (M.latency l.measured)
  pub wanted : M.total r.wanted ≡ signed M.quantities st (M.latency l.wanted)
  pub low : M.within 1 r.measured
  pub high : M.within 1 r.wanted

module _ {L T : Type 0} (M : Meaning L T) (s : State M.quantities.Q) where
  -- the words so far are a walk that ends at the trip's switch and comes to its totals
  pub record Walked (ws : List ℕ) (x : Trip T) : Type 0 where
    pub first : ℕ
    pub steps : List Step
    pub read : ReadAs M.quantities s ws first steps x.at
    pub measures : M.total x.measured ≡ measured M.quantities s steps
    pub wants : M.total x.wanted ≡ wanted M.quantities s steps
    pub low : M.within (length ws) x.measured
    pub high : M.within (length ws) x.wanted

  -- the walk with one word more, or why it stops there
  abbrev pub Stepped : List ℕ → Trip T → ℕ → Result (Trip T) Refusal → Type 0
  Stepped ws x w (Ok y) = Walked (ws ++ w ∷ []) y
  Stepped ws x w (Err e) = ((e ≡ NoSuchStep) × ((st : Step) × Reads M.quantities s w st → ⊥))
      ⊎ ((e ≡ BrokenWalk) × (1 ≤ length ws) × ((st : Step) × Reads M.quantities s w st × (start (plan M.quantities s) st ≢ x.at)))
