-- What is said of the links that stand in a book, in quantities.
use Rattle.std.specs.Prelude.{◌≡◌, ℕ, ◌≤◌, List, [], ◌∷◌, ◌++◌, length, ◌≢◌}
use Rattle.kind.specs.Group.{Quantities}
use Rattle.network.specs.Graph.{Graph, Walk, Connected, Joining, Path, start, end, place, Distinct}
use Rattle.network.specs.Offsets.{Link, tally, at, graph, Positions}
use Rattle.network.specs.declared.Step.{Step}
use Rattle.network.specs.declared.Step.TheVariants.{Forward, Backward}
use Rattle.calls.specs.State.{State}
use Rattle.network.specs.Words.{word}

abbrev pub Onward : List Step → Type 0
Onward [] = Unit {0}
Onward (Forward p ∷ ss) = Onward ss
Onward (Backward p ∷ ss) = ⊥

abbrev pub ends : Graph → List Step → List ℕ
ends g [] = []
ends g (s ∷ ss) = end g s ∷ ends g ss

module _ (K : Quantities) where
  open K use {Q}

  -- the link at position p, from 1; whether p is the position of a standing link; the book's switches and links as a graph
  abbrev pub link : State Q → ℕ → Link Q
  link s p = at K s.links p

  abbrev pub Standing : State Q → ℕ → Type 0
  Standing s p = Positions K s.links p

  abbrev pub plan : State Q → Graph
  plan s = graph K s.links

  -- the link at p stands, and leads from i to j
  abbrev pub Stands : State Q → ℕ → ℕ → ℕ → Type 0
  Stands s i j p = Standing s p × ((link s p).from ≡ i) × ((link s p).to ≡ j)

  abbrev pub Linked : State Q → ℕ → ℕ → Type 0
  Linked s i j = Connected (plan s) (Standing s) i j

  -- the lowest switch of those that are linked with it
  abbrev pub Lowest : State Q → ℕ → Type 0
  Lowest s v = (1 ≤ v) × (v ≤ s.n) × ((u : ℕ) → 1 ≤ u → Linked s v u → v ≤ u)

  -- the word is the step's, and names a standing link
  abbrev pub Reads : State Q → ℕ → Step → Type 0
  Reads s w st = (w ≡ word st) × Standing s (place st)

  -- the words are read as the steps of a walk from i to j
  abbrev pub ReadAs : State Q → List ℕ → ℕ → List Step → ℕ → Type 0
  ReadAs s [] i [] j = i ≡ j
  ReadAs s [] i (st ∷ sts) j = ⊥
  ReadAs s (w ∷ ws) i [] j = ⊥
  ReadAs s (w ∷ ws) i (st ∷ sts) j = Reads s w st × (start (plan s) st ≡ i) × ReadAs s ws (end (plan s) st) sts j

  -- a good walk, and then a word at fault
  pub record Stops (s : State Q) (words : List ℕ) (Fault : ℕ → List Step → ℕ → Type 0) : Type 0 where
    pub front : List ℕ
    pub fault : ℕ
    pub rest : List ℕ
    pub whole : words ≡ front ++ (fault ∷ rest)
    pub first : ℕ
    pub last : ℕ
    pub steps : List Step
    pub read : ReadAs s front first steps last
    pub wrong : Fault fault steps last

  -- the next word names no standing link
  abbrev pub Nowhere : State Q → ℕ → List Step → ℕ → Type 0
  Nowhere s w steps last = (st : Step) × Reads s w st → ⊥

  -- the next step begins elsewhere than the last one ended
  abbrev pub Elsewhere : State Q → ℕ → List Step → ℕ → Type 0
  Elsewhere s w steps last = (1 ≤ length steps) × ((st : Step) × Reads s w st × (start (plan s) st ≢ last))

  -- a loop: one or more forward steps that end where they began, no two of them at one switch
  abbrev pub Loop : State Q → List Step → Type 0
  Loop s steps = (v : ℕ) × Walk (plan s) (Standing s) v steps v × (1 ≤ length steps) × Onward steps × Distinct (ends (plan s) steps)

  abbrev pub measured : State Q → List Step → Q
  measured s = tally K (λ p. (link s p).measured)

  abbrev pub wanted : State Q → List Step → Q
  wanted s = tally K (λ p. (link s p).wanted)

  -- the one path of joining links from a link's second switch back to its first; none where nothing connects them, which no list of calls brings about
  abbrev pub Back : State Q → Link Q → List Step → Type 0
  Back s l steps =
      (Linked s l.to l.from → Path (plan s) (Joining (plan s) (length s.links)) l.to steps l.from)
      × ((Linked s l.to l.from → ⊥) → steps ≡ [])
