-- What a call of a file does to a book, and to the rows that are lent for it.
use Rattle.std.specs.Prelude.{◌≡◌, ℕ, ◌-◌, ◌*◌, ◌≤◌, ◌⊎◌, List, [], map, length, take, drop, ℤ, Some, None, Ok, Err, Result, ◌≢◌, slice_index_or}
use Rattle.kind.specs.Meaning.{Meaning}
use Rattle.network.specs.declared.Step.{Step}
use Rattle.network.specs.Words.{word, steps_of}
use Rattle.calls.specs.declared.Refusal.TheVariants.{Contradicts, NegativeLoop, UnknownSwitch, ShortRow}
use Rattle.calls.specs.State.{State, Call, Answer, Rows, SIZE, LINK, STRIKE, OFFSET, OFFSETS, REALISE, ISSUE, RECALL, WALK, done, total, totals, offsets, refused}
use Rattle.calls.specs.Calls.{Right, Next}
use Rattle.search.specs.Records.{On}
use Rattle.search.specs.Settled as settled
use Rattle.book.specs.Memory.{rows_of}
use Rattle.report.specs.Entries.{Item, size, link, strike, offset, all_offsets, realise, issue, recall, walk}
use Rattle.report.specs.declared.fault.LatencyFault.{LatencyFault}
use Rattle.report.specs.declared.fault.LatencyFault.TheVariants.{Measured, Wanted}
use Rattle.report.specs.declared.fault.CallFault.{CallFault}
use Rattle.report.specs.declared.fault.CallFault.TheVariants.{Latency, Book}
use Rattle.report.specs.declared.fault.Good.{Good}
use Rattle.report.specs.declared.fault.Good.TheVariants.{Done, Total, Totals, Offsets, Schedule}

-- a number of the call makes no latency, or the book gave an answer
pub data Outcome (Q : Type 0) : Type 0 where
  unmade : LatencyFault → Outcome Q
  answered : Answer Q → Outcome Q

module _ {L T : Type 0} (M : Meaning L T) (rows : Rows) where
  -- the call on the book that an item of a file asks for
  pub data Asks : Item → Call M.quantities.Q → Type 0 where
    for_size : (n : ℕ) → Asks (size n) (SIZE n)
    for_link : (i j : ℕ) (m w : ℤ) (p q : M.quantities.Q) → M.reads m ≡ Some p → M.reads w ≡ Some q
        → Asks (link i j m w) (LINK (record { from = i; to = j; measured = p; wanted = q }) rows)
    for_strike : (i j : ℕ) → Asks (strike i j) (STRIKE i j)
    for_offset : (i j : ℕ) → Asks (offset i j) (OFFSET i j rows)
    for_offsets : Asks all_offsets (OFFSETS rows)
    for_realise : Asks realise (REALISE rows)
    for_issue : Asks issue ISSUE
    for_recall : Asks recall RECALL
    for_walk : (ws : List ℕ) → Asks (walk ws) (WALK ws)

  -- an item is done on a book in the state s, with its outcome, and leaves the state t
  pub data Does (s : State M.quantities.Q) : Item → Outcome M.quantities.Q → State M.quantities.Q → Type 0 where
    unmeasured : (i j : ℕ) (m w : ℤ) → M.reads m ≡ None → Does s (link i j m w) (unmade Measured) s
    unwanted : (i j : ℕ) (m w : ℤ) (p : M.quantities.Q) → M.reads m ≡ Some p → M.reads w ≡ None → Does s (link i j m w) (unmade Wanted) s
    called : (e : Item) (c : Call M.quantities.Q) (a : Answer M.quantities.Q) (t : State M.quantities.Q)
        → Asks e c → Right M s c a → Next M s c a t → Does s e (answered a) t

-- what the three lent rows hold
pub record Lent (T : Type 0) : Type 0 where
  pub totals : List T
  pub numbers : List ℕ
  pub steps : List ℕ

abbrev pub lent_of : {T : Type 0} → List T → List ℕ → List ℕ → Lent T
lent_of ts ns ss = record { totals = ts; numbers = ns; steps = ss }

abbrev pub sizes : {T : Type 0} → Lent T → Rows
sizes m = rows_of m.totals m.numbers m.steps

-- a refusal of LINK or REALISE, and of OFFSET or OFFSETS, before the rows are used
abbrev pub Unread : {Q : Type 0} → Outcome Q → Type 0
Unread (unmade f) = Unit {0}
Unread (answered done) = ⊥
Unread (answered (total q)) = ⊥
Unread (answered (totals p q)) = ⊥
Unread (answered (offsets c)) = ⊥
Unread (answered (refused e ss)) = (e ≢ Contradicts) × (e ≢ NegativeLoop)

abbrev pub Unasked : {Q : Type 0} → Outcome Q → Type 0
Unasked (unmade f) = Unit {0}
Unasked (answered done) = ⊥
Unasked (answered (total q)) = ⊥
Unasked (answered (totals p q)) = ⊥
Unasked (answered (offsets c)) = ⊥
Unasked (answered (refused e ss)) = (e ≡ UnknownSwitch) ⊎ (e ≡ ShortRow)

-- the call has not used the rows
abbrev pub Early : {Q : Type 0} → Item → Outcome Q → Type 0
Early (size n) o = Unit {0}
Early (link i j m w) o = Unread o
Early (strike i j) o = Unit {0}
Early (offset i j) o = Unasked o
Early all_offsets o = Unasked o
Early realise o = Unread o
Early issue o = Unit {0}
Early recall o = Unit {0}
Early (walk ws) o = Unit {0}

-- the steps that the outcome shows
abbrev pub shown_by : {Q : Type 0} → Outcome Q → List Step
shown_by (unmade f) = []
shown_by (answered done) = []
shown_by (answered (total q)) = []
shown_by (answered (totals p q)) = []
shown_by (answered (offsets c)) = []
shown_by (answered (refused e ss)) = ss

-- What is left in the rows, on n switches: all of it, if the call has not used them; otherwise all but the first 2 × n totals, the first 4 × n
-- numbers, and the words of the shown steps at the start of the step row.
pub record Left {T Q : Type 0} (n : ℕ) (e : Item) (o : Outcome Q) (m m' : Lent T) : Type 0 where
  pub early : Early e o → m' ≡ m
  pub totals : drop (2 * n) m'.totals ≡ drop (2 * n) m.totals
  pub numbers : drop (4 * n) m'.numbers ≡ drop (4 * n) m.numbers
  pub steps : drop (length (shown_by o)) m'.steps ≡ drop (length (shown_by o)) m.steps
  pub words : take (length (shown_by o)) m'.steps ≡ map word (shown_by o)

-- the outcome that the code's reply stands for, by the totals and the step words in the rows
abbrev pub outcome_of : {L T : Type 0} (M : Meaning L T) → Result (Good T) CallFault → Lent T → Outcome M.quantities.Q
outcome_of M (Ok Done) m = answered done
outcome_of M (Ok (Total t)) m = answered (total (M.total t))
outcome_of M (Ok (Totals t u)) m = answered (totals (M.total t) (M.total u))
outcome_of M (Ok (Offsets k)) m = answered (offsets (settled.offset M (take k m.totals)))
outcome_of M (Ok (Schedule k)) m = answered (offsets (settled.offset M m.totals))
outcome_of M (Err (Latency f)) m = unmade f
outcome_of M (Err (Book x)) m = answered (refused x.refusal (steps_of (take x.shown m.steps)))

-- the first k totals of a row are within reach
abbrev pub Near : {L T : Type 0} (M : Meaning L T) → ℕ → List T → Type 0
Near {T = T} M k row = (v : ℕ) → On k v → (t : T) → M.within 16777216 (slice_index_or row (v - 1) t)

-- what stands behind a reply on a book of n switches: totals within reach; as many as there are switches; step words in their row, no more than that
abbrev pub Backed : {L T : Type 0} (M : Meaning L T) → ℕ → Result (Good T) CallFault → Lent T → Type 0
Backed M n (Ok Done) m = Unit {0}
Backed M n (Ok (Total t)) m = M.within 16777216 t
Backed M n (Ok (Totals t u)) m = M.within 16777216 t × M.within 16777216 u
Backed M n (Ok (Offsets k)) m = (k ≡ n) × (k ≤ 1024) × (k ≤ length m.totals) × Near M k m.totals
Backed M n (Ok (Schedule k)) m = (k ≡ n) × (k ≤ 1024) × (k ≤ length m.totals) × Near M k m.totals
Backed M n (Err (Latency f)) m = Unit {0}
Backed M n (Err (Book x)) m = (x.shown ≤ 1024) × (x.shown ≤ length m.steps) × (take x.shown m.steps ≡ map word (steps_of (take x.shown m.steps)))

-- the item is done, and this is the code's reply
pub record Did {L T : Type 0} (M : Meaning L T) (s : State M.quantities.Q) (e : Item) (r : Result (Good T) CallFault) (t : State M.quantities.Q) (m m' : Lent T) : Type 0 where
  pub does : Does M (sizes m) s e (outcome_of M r m') t
  pub backed : Backed M s.n r m'
  pub left : Left s.n e (outcome_of M r m') m m'

-- what comes of the two numbers of a LINK: two latencies, or the first that is none
abbrev pub Made : {L T : Type 0} (M : Meaning L T) → ℤ → ℤ → Result (L × L) LatencyFault → Type 0
Made M m w (Ok x) = (M.reads m ≡ Some (M.latency x.0)) × (M.reads w ≡ Some (M.latency x.1))
Made M m w (Err Measured) = M.reads m ≡ None
Made {L} M m w (Err Wanted) = (x : L) × (M.reads m ≡ Some (M.latency x)) × (M.reads w ≡ None)

-- the numbers of a reply are no more than the rows have, and than there are switches
abbrev pub GoodRoom : {T : Type 0} → Good T → List T → Type 0
GoodRoom Done ts = Unit {0}
GoodRoom (Total t) ts = Unit {0}
GoodRoom (Totals t u) ts = Unit {0}
GoodRoom (Offsets k) ts = (k ≤ 1024) × (k ≤ length ts)
GoodRoom (Schedule k) ts = (k ≤ 1024) × (k ≤ length ts)

abbrev pub Room : {T : Type 0} → Result (Good T) CallFault → Lent T → Type 0
Room (Ok v) m = GoodRoom v m.totals
Room (Err (Latency f)) m = Unit {0}
Room (Err (Book x)) m = (x.shown ≤ 1024) × (x.shown ≤ length m.steps)
