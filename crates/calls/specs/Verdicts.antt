-- The verdicts of LINK, OFFSET and REALISE, in the words of offsets.
use Rattle.std.specs.Prelude.{◌≡◌, ℕ, ◌<◌, ◌≤◌, true, false, ◌↔◌, List, [], ◌∷◌, ◌++◌, length, ◌≢◌}
use Rattle.kind.specs.Group.{Quantities}
use Rattle.kind.specs.Meaning.{Meaning}
use Rattle.network.specs.declared.Step.{Step}
use Rattle.network.specs.Offsets.{Link, Carries, Fits}
use Rattle.network.specs.Network.{Equivalent, measured_network, wanted_network}
use Rattle.calls.specs.declared.Refusal.TheVariants.{Contradicts, NotConnected, NegativeLoop}
use Rattle.calls.specs.State.{State, Rows, Call, WALK, Answer, done, total, totals, offsets, refused, Inside, Enough}
use Rattle.calls.specs.Standing.{Stands, Linked, ReadAs, Loop, measured, wanted}
use Rattle.calls.specs.Calls.{Right, Ran, Leaves, Realises}

module _ {L T : Type 0} (M : Meaning L T) where
  abbrev K : Quantities
  K = M.quantities

  -- the call is past every check before the verdict
  pub record Ready (s : State K.Q) (l : Link K.Q) (rows : Rows) : Type 0 where
    pub unissued : s.issued ≡ false
    pub inside : Inside s.n (l.from ∷ l.to ∷ [])
    pub apart : l.from ≡ l.to → ⊥
    pub new : (p : ℕ) × Stands K s l.from l.to p → ⊥
    pub room : length s.links < s.capacity
    pub enough : Enough s.n rows

  -- LINK says 11 exactly when no offsets carry the standing links and the new one; otherwise it says OK, and the new link stands last.
  pub record LinkVerdict (s : State K.Q) (l : Link K.Q) (rows : Rows) (a : Answer K.Q) (t : State K.Q) : Type 0 where
    pub contradicts : Ready s l rows → (Fits K (s.links ++ l ∷ []) → ⊥) → (steps : List Step) × (a ≡ refused Contradicts steps)
    pub contradicts_only : (steps : List Step) → a ≡ refused Contradicts steps → Ready s l rows × (Fits K (s.links ++ l ∷ []) → ⊥)
    pub taken : Ready s l rows → Fits K (s.links ++ l ∷ []) → (a ≡ done) × (t.links ≡ s.links ++ l ∷ [])
    pub taken_only : a ≡ done → Ready s l rows × Fits K (s.links ++ l ∷ [])
    -- offsets carry them exactly when the network as measured and the network as wanted are equivalent
    pub equivalent : Fits K (s.links ++ l ∷ []) ↔ Equivalent K (measured_network K (s.links ++ l ∷ [])) (wanted_network K (s.links ++ l ∷ []))

  -- WALK reads the words as the steps, from the new link's receiver back to its sender, and answers their totals.
  pub record ReadBack (s : State K.Q) (l : Link K.Q) (words : List ℕ) (steps : List Step) : Type 0 where
    pub walk : ReadAs K s words l.to steps l.from
    pub answer : Right M s (WALK words) (totals (measured K s steps) (wanted K s steps))

  -- in every list of calls, the words that LINK shows with 11 are read back so
  abbrev pub ReadsBack : State K.Q → Link K.Q → Answer K.Q → List ℕ → Type 0
  ReadsBack s l a words =
      (h : List (Call K.Q × Answer K.Q)) → Ran M h s → (steps : List Step) → a ≡ refused Contradicts steps → ReadBack s l words steps

  -- the difference of two switches in some offsets
  abbrev pub between : (ℕ → K.Q) → ℕ → ℕ → K.Q
  between c i j = K.plus (c j) (K.minus (c i))

  -- OFFSET is past every check before its verdict
  pub record Posed (s : State K.Q) (i j : ℕ) (rows : Rows) : Type 0 where
    pub inside : Inside s.n (i ∷ j ∷ [])
    pub enough : Enough s.n rows
    pub fits : Fits K s.links

  -- two offsets that carry the standing links and differ in the difference asked for
  abbrev pub Differ : State K.Q → ℕ → ℕ → Type 0
  Differ s i j = (b c : ℕ → K.Q) × Carries K b s.links × Carries K c s.links × (between b i j ≢ between c i j)

  -- every offsets that carry the standing links have this difference
  abbrev pub Always : State K.Q → ℕ → ℕ → K.Q → Type 0
  Always s i j q = (c : ℕ → K.Q) → Carries K c s.links → between c i j ≡ q

  -- OFFSET says 13 exactly when the difference is not the same in all offsets that carry the standing links, which is when no standing links
  -- connect the two switches; otherwise it gives that difference.
  pub record OffsetVerdict (s : State K.Q) (i j : ℕ) (rows : Rows) (a : Answer K.Q) : Type 0 where
    pub unknown : Posed s i j rows → Differ s i j → a ≡ refused NotConnected []
    pub unknown_only : (steps : List Step) → a ≡ refused NotConnected steps → Posed s i j rows × Differ s i j × (Linked K s i j → ⊥)
    pub known : Posed s i j rows → (q : K.Q) → Always s i j q → a ≡ total q
    pub known_only : (q : K.Q) → a ≡ total q → Posed s i j rows × Always s i j q × Linked K s i j

  -- REALISE is past every check before its verdict
  pub record Asked (s : State K.Q) (rows : Rows) : Type 0 where
    pub ordered : M.ordered ≡ true
    pub enough : Enough s.n rows

  -- no offsets that realise the links are less at any switch
  abbrev pub Least : State K.Q → (ℕ → K.Q) → Type 0
  Least s c = (b : ℕ → K.Q) → Realises M s b → (v : ℕ) → 1 ≤ v → v ≤ s.n → M.below (K.plus (b v) (K.minus (c v))) ≡ false

  -- REALISE says 15 exactly when no offsets, of any sign, leave every standing link's measured latency at zero or above, and then shows a loop below
  -- zero; otherwise it shows such offsets, none below zero, and no others such are less at any switch.
  pub record RealiseVerdict (s : State K.Q) (rows : Rows) (a : Answer K.Q) : Type 0 where
    pub none : Asked s rows → ((c : ℕ → K.Q) × Leaves M s c → ⊥) → (steps : List Step) × (a ≡ refused NegativeLoop steps)
    pub none_only : (steps : List Step) → a ≡ refused NegativeLoop steps → Asked s rows × ((c : ℕ → K.Q) × Leaves M s c → ⊥) × Loop K s steps × (M.below (measured K s steps) ≡ true)
    pub some : Asked s rows → (b : ℕ → K.Q) → Leaves M s b → (c : ℕ → K.Q) × (a ≡ offsets c) × Realises M s c × Least s c
    pub some_only : (c : ℕ → K.Q) → a ≡ offsets c → Asked s rows × Realises M s c × Least s c

  -- the words that REALISE shows with 15 are read back as the loop, from where it begins to where it began
  abbrev pub LoopReadsBack : State K.Q → Answer K.Q → List ℕ → Type 0
  LoopReadsBack s a words =
      (steps : List Step) → a ≡ refused NegativeLoop steps → (v : ℕ) × ReadAs K s words v steps v × Right M s (WALK words) (totals (measured K s steps) (wanted K s steps))
