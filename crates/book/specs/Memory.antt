-- The book in memory: what it holds, what its calls answer, and what its records keep.
use Rattle.std.specs.Prelude.{◌≡◌, ℕ, ◌-◌, ◌*◌, ◌<◌, ◌≤◌, min, ◌⊎◌, List, [], map, length, get_or, take, drop, Ok, Err, Result, ◌≢◌, slice_index_or, slice_set}
use Rattle.kind.specs.Meaning.{Meaning}
use Rattle.network.specs.Offsets.{Fits}
use Rattle.network.specs.Words.{word, steps_of}
use Rattle.search.specs.declared.link.Link.{Link as Record}
use Rattle.search.specs.Records.{link_of, On}
use Rattle.search.specs.Settled.{offset}
use Rattle.calls.specs.declared.Refusal.{Refusal}
use Rattle.calls.specs.declared.Refusal.TheVariants.{Contradicts, NegativeLoop, UnknownSwitch, ShortRow}
use Rattle.calls.specs.State.{State, Rows, Call, Answer, done, total, totals, offsets, refused}
use Rattle.calls.specs.Calls.{Right, Next, Goes, Ran}
use Rattle.calls.specs.OneAnswer.{Same}
use Rattle.book.specs.declared.store.Store.{Store}
use Rattle.book.specs.declared.store.Refused.{Refused}

-- the standing records; the room for links
abbrev pub records : {L : Type 0} → Store L → List (Record L)
records s = take s.count s.links.now

abbrev pub capacity_of : {L : Type 0} → Store L → ℕ
capacity_of s = min (length s.links.now) 8192

abbrev pub state_of : {L T : Type 0} (M : Meaning L T) → Store L → State M.quantities.Q
state_of M s = record { links = map (link_of M) (records s); n = s.n; issued = s.issued; capacity = capacity_of s }

-- the answer of a call that gives no quantity, and of a walk
abbrev pub plain : {Q : Type 0} → Result (Unit {0}) Refusal → Answer Q
plain (Ok _) = done
plain (Err e) = refused e []

abbrev pub pair : {L T : Type 0} (M : Meaning L T) → Result (T × T) Refusal → Answer M.quantities.Q
pair M (Ok (m, w)) = totals (M.total m) (M.total w)
pair M (Err e) = refused e []

-- the answer of a call whose refusal may show steps, by the words in the step row
abbrev pub shown_answer : {Q : Type 0} → Result (Unit {0}) Refused → List ℕ → Answer Q
shown_answer (Ok _) row = done
shown_answer (Err e) row = refused e.refusal (steps_of (take e.shown row))

-- the answer that is one total; offsets by the totals row; and the latter with a refusal that shows steps
abbrev pub single : {L T : Type 0} (M : Meaning L T) → Result T Refusal → Answer M.quantities.Q
single M (Ok t) = total (M.total t)
single M (Err e) = refused e []

abbrev pub row_answer : {L T : Type 0} (M : Meaning L T) → ℕ → Result (Unit {0}) Refusal → List T → Answer M.quantities.Q
row_answer M n (Ok _) row = offsets (offset M (take n row))
row_answer M n (Err e) row = refused e []

abbrev pub shown_offsets : {L T : Type 0} (M : Meaning L T) → Result (Unit {0}) Refused → List T → List ℕ → Answer M.quantities.Q
shown_offsets M (Ok _) row words = offsets (offset M row)
shown_offsets M (Err e) row words = refused e.refusal (steps_of (take e.shown words))

abbrev pub shown : {X : Type 0} → Result X Refused → ℕ
shown (Ok _) = 0
shown (Err e) = e.shown

abbrev pub rows_of : {T : Type 0} → List T → List ℕ → List ℕ → Rows
rows_of ts ns ss = record { totals = length ts; numbers = length ns; steps = length ss }

-- What each call promises of its answer.
pub record Answered {L T : Type 0} (M : Meaning L T) (s : Store L) (c : Call M.quantities.Q) (a : Answer M.quantities.Q) (t : Store L) : Type 0 where
  -- it is right, and the book is left as the call leaves it
  pub answer : Right M (state_of M s) c a
  pub state : Next M (state_of M s) c a (state_of M t)
  -- every list of calls on one book that led here goes on with this call and this answer
  pub ran : Goes M (state_of M s) c a (state_of M t)
  -- after every such list no other answer is right
  pub only : (h : List (Call M.quantities.Q × Answer M.quantities.Q)) → Ran M h (state_of M s) → (b : Answer M.quantities.Q) → Right M (state_of M s) c b → Same s.n a b
  -- and offsets carry the links that stand then
  pub fits : (h : List (Call M.quantities.Q × Answer M.quantities.Q)) → Ran M h (state_of M s) → Fits M.quantities (state_of M t).links

-- a refused call leaves the whole book as it was, field by field and record by record
abbrev pub Kept : {X E L : Type 0} → Result X E → Store L → Store L → Type 0
Kept (Ok _) s t = Unit {0}
Kept (Err e) s t = t ≡ s

-- a call that only marks or resizes leaves every record
abbrev pub Untouched : {L : Type 0} → Store L → Store L → Type 0
Untouched s t = t.links.now ≡ s.links.now

-- LINK writes the new record behind the standing ones, and no other; refused, none
abbrev pub Entered : {L : Type 0} → Result (Unit {0}) Refused → Record L → Store L → Store L → Type 0
Entered (Ok _) l s t = t.links.now ≡ slice_set s.links.now s.count l
Entered (Err e) l s t = t.links.now ≡ s.links.now

-- a refusal before the rows are used
abbrev pub Early : {X : Type 0} → Result X Refused → Type 0
Early (Ok _) = ⊥
Early (Err e) = (e.refusal ≢ Contradicts) × (e.refusal ≢ NegativeLoop)

-- What a call with three rows leaves in them: all of it before it passes the check on the rows; after it all but the
-- first 2 × n totals, the first 4 × n numbers and the shown step words, of which there are at most n.
pub record RowsLeft {X T : Type 0} (n : ℕ) (r : Result X Refused) (ts ts' : List T) (ns ns' ss ss' : List ℕ) : Type 0 where
  pub early : Early r → (ts' ≡ ts) × (ns' ≡ ns) × (ss' ≡ ss)
  pub totals : drop (2 * n) ts' ≡ drop (2 * n) ts
  pub numbers : drop (4 * n) ns' ≡ drop (4 * n) ns
  pub steps : drop (shown r) ss' ≡ drop (shown r) ss
  pub count : shown r ≤ n
  pub room : shown r ≤ length ss'
  pub words : take (shown r) ss' ≡ map word (steps_of (take (shown r) ss'))

-- the same of a call that writes no steps
abbrev pub Unused : {X : Type 0} → Result X Refusal → Type 0
Unused (Ok _) = ⊥
Unused (Err e) = (e ≡ UnknownSwitch) ⊎ (e ≡ ShortRow)

pub record RowsUsed {X T : Type 0} (n : ℕ) (r : Result X Refusal) (ts ts' : List T) (ns ns' : List ℕ) : Type 0 where
  pub early : Unused r → (ts' ≡ ts) × (ns' ≡ ns)
  pub totals : drop (2 * n) ts' ≡ drop (2 * n) ts
  pub numbers : drop (4 * n) ns' ≡ drop (4 * n) ns

-- the first n totals of a row that a call shows are within reach
abbrev pub Near : {X E L T : Type 0} (M : Meaning L T) → ℕ → Result X E → List T → Type 0
Near {T} M n (Ok _) row = (v : ℕ) → On n v → (t : T) → M.within 16777216 (slice_index_or row (v - 1) t)
Near M n (Err e) row = Unit {0}

-- the invariants of a book
abbrev pub Held : {L : Type 0} → Store L → Type 0
Held s = (s.count ≤ length s.links.now) × (s.count ≤ 8192) × (1 ≤ s.n) × (s.n ≤ 1024)

abbrev pub Good : {L : Type 0} → ℕ → Record L → Type 0
Good n k = (1 ≤ k.from) × (k.from ≤ n) × (1 ≤ k.to) × (k.to ≤ n) × (k.from ≢ k.to)

abbrev pub Sound : {L : Type 0} → ℕ → List (Record L) → Type 0
Sound {L} n xs = (k : ℕ) → k < length xs → (d : Record L) → Good n (slice_index_or xs k d)

-- no two lead from one switch to the same other
abbrev pub Single : {L : Type 0} → List (Record L) → Type 0
Single {L} xs = (j k : ℕ) (d : Record L) → (j < k) × (k < length xs) × ((get_or xs j d).from ≡ (get_or xs k d).from) × ((get_or xs j d).to ≡ (get_or xs k d).to) → ⊥
