-- The rows in memory: what stands at switch v is at place v − 1.
use Rattle.std.specs.Prelude.{◌≡◌, ℕ, ◌+◌, ◌-◌, ◌<◌, ◌≤◌, Bool, true, false, ◌⊎◌, List, drop, ◌≢◌, slice_index, slice_index_or, slice_set}
use Rattle.kind.specs.Meaning.{Meaning}
use Rattle.network.specs.Graph.{Graph, Upto}
use Rattle.search.specs.declared.link.Link.{Link as Record}
use Rattle.search.specs.Records.{On}
use Rattle.search.specs.Settled.{offset}
use Rattle.schedule.specs.Rounds.{State, Less, AtMost, back}

abbrev pub entry : List ℕ → ℕ → ℕ
entry row v = slice_index row (v - 1)

module _ {L T : Type 0} (M : Meaning L T) where
  open M.quantities use {Q, plus}

  abbrev pub state_of : List T → List ℕ → List ℕ → State Q
  state_of row stamps preds = record { offset = offset M row; stamp = entry stamps; pred = entry preds }

  -- the first n totals are within k
  abbrev pub Near : ℕ → ℕ → List T → Type 0
  Near n k row = (v : ℕ) → On n v → (t : T) → M.within k (slice_index_or row (v - 1) t)

  pub record Zero (n : ℕ) (row : List T) : Type 0 where
    pub means : (v : ℕ) → On n v → offset M row v ≡ M.quantities.zero
    pub near : Near n 0 row

  -- The link is passed over: it asks nothing new, or has what it asks.
  pub record Passed (n k : ℕ) (l : Record L) (row row' : List T) (stamps stamps' preds preds' : List ℕ) : Type 0 where
    pub row_is : row' ≡ row
    pub stamps_is : stamps' ≡ stamps
    pub preds_is : preds' ≡ preds
    pub asks : (entry stamps l.from < k) ⊎ AtMost M (offset M (drop n row) l.from) (plus (M.latency l.measured) (offset M row l.to))

  -- The link at p was left a latency below zero, and is now left zero: x stands at its receiver.
  pub record Lifted (n k p : ℕ) (l : Record L) (row row' : List T) (stamps stamps' preds preds' : List ℕ) : Type 0 where
    pub x : T
    pub row_is : row' ≡ slice_set row (l.to - 1) x
    pub stamps_is : stamps' ≡ slice_set stamps (l.to - 1) (k + 1)
    pub preds_is : preds' ≡ slice_set preds (l.to - 1) p
    pub short : Less M (plus (M.latency l.measured) (offset M row l.to)) (offset M (drop n row) l.from)
    pub level : plus (M.latency l.measured) (M.total x) ≡ offset M (drop n row) l.from
    pub near : M.within (k + 1) x

  abbrev pub Heard : ℕ → ℕ → ℕ → Record L → List T → List T → List ℕ → List ℕ → List ℕ → List ℕ → Bool → Type 0
  Heard n k p l row row' stamps stamps' preds preds' true = Lifted n k p l row row' stamps stamps' preds preds'
  Heard n k p l row row' stamps stamps' preds preds' false = Passed n k l row row' stamps stamps' preds preds'

-- n links back from v there is always one more
abbrev pub Traced : Graph → ℕ → ℕ → (ℕ → ℕ) → ℕ → Type 0
Traced g count n pred v = (t : ℕ) → t < n → Upto count (pred (back g pred v t))

-- From u, among the n switches back from v, it is m links back to u, over m switches.
pub record Circle (g : Graph) (n : ℕ) (pred : ℕ → ℕ) (v u m : ℕ) : Type 0 where
  pub far : ℕ
  pub from : back g pred v far ≡ u
  pub low : far + m ≤ n
  pub some : 1 ≤ m
  pub closes : back g pred u m ≡ u
  pub apart : (i j : ℕ) → i < j → j < m → back g pred u i ≢ back g pred u j
