-- The calls of a file done one after another on one book, and the lines written of them.
use Rattle.std.specs.Prelude.{◌≡◌, ℕ, ◌+◌, ◌<◌, ◌≤◌, List, [], ◌∷◌, ◌++◌, length, Some, None, Ok, Err, Option, Result, ◌≢◌}
use Rattle.text.specs.Writing.{Wrote}
use Rattle.kind.specs.Meaning.{Meaning}
use Rattle.calls.specs.State.{State, Call, Answer, Rows}
use Rattle.calls.specs.Calls.{Ran, fresh}
use Rattle.report.specs.Entries.{Item}
use Rattle.report.specs.Reading.{Reading, unread, ahead, first_word, past, shut}
use Rattle.report.specs.Doing.{Outcome, unmade, answered, Asks, Does, Lent, sizes, Left}
use Rattle.report.specs.Lines.{line_of, fault_line}
use Rattle.report.specs.Faults.{fault_of, file_fault}
use Rattle.report.specs.declared.file.FileFault.{FileFault}
use Rattle.report.specs.declared.file.FileKind.{FileKind}
use Rattle.report.specs.declared.fault.LatencyFault.{LatencyFault}
use Rattle.report.specs.declared.session.Line.{Line}
use Rattle.report.specs.declared.whole.Full.{Full}

module _ {L T : Type 0} (M : Meaning L T) where
  -- What one call of the reader does from the reading r and the state s: the next call of the file, or the file's fault, with its line, while the rows m become m'.
  pub data Step (r : Reading) (s : State M.quantities.Q) (m m' : Lent T) (row row' : List ℕ) (l : Line) : Reading → State M.quantities.Q → Type 0 where
    did : (e : Item) (o : Outcome M.quantities.Q) (t : State M.quantities.Q)
        → ahead r ≡ Ok (Some e) → Does M (sizes m) s e o t → Wrote row 0 (line_of M s.n e o) row' l.bytes → l.fault ≡ fault_of (first_word r) o → Left s.n e o m m'
        → Step r s m m' row row' l (past r e) t
    failed : (f : FileFault) → ahead r ≡ Err f → Wrote row 0 (fault_line f) row' l.bytes → l.fault ≡ file_fault f → m' ≡ m → Step r s m m' row row' l (shut r) s

  -- what is told of the next call: its line, or that none is left
  abbrev pub Told : Reading → State M.quantities.Q → Lent T → Lent T → List ℕ → List ℕ → Option Line → Reading → State M.quantities.Q → Type 0
  Told r s m m' row row' None r' s' = (ahead r ≡ Ok None) × (row' ≡ row) × (m' ≡ m) × (r' ≡ r) × (s' ≡ s)
  Told r s m m' row row' (Some l) r' s' = (32768 ≤ length row) × Step r s m m' row row' l r' s'

  -- or that the row is too short for the line, and nothing is done
  abbrev pub Next : {E : Type 0} → Reading → State M.quantities.Q → Lent T → Lent T → List ℕ → List ℕ → Result (Option Line) E → Reading → State M.quantities.Q → Type 0
  Next r s m m' row row' (Ok o) r' s' = Told r s m m' row row' o r' s'
  Next r s m m' row row' (Err e) r' s' = (length row < 32768) × (ahead r ≢ Ok None) × (row' ≡ row) × (m' ≡ m) × (r' ≡ r) × (s' ≡ s)

module _ {L T : Type 0} (M : Meaning L T) (kind : FileKind) (capacity : ℕ) (rows : Rows) where
  -- calls done since the file was unread and the book new, each with its outcome and the number of switches that the book had, the newest first, the fault that ended
  -- them, and where the reader and the book stand
  pub data History (file : List ℕ) : List (Item × Outcome M.quantities.Q × ℕ) → Option FileFault → Reading → State M.quantities.Q → Type 0 where
    opened : History file [] None (unread kind file) (fresh M capacity)
    then : (h : List (Item × Outcome M.quantities.Q × ℕ)) (r : Reading) (s t : State M.quantities.Q) (e : Item) (o : Outcome M.quantities.Q)
        → History file h None r s → ahead r ≡ Ok (Some e) → Does M rows s e o t → History file ((e, o, s.n) ∷ h) None (past r e) t
    broken : (h : List (Item × Outcome M.quantities.Q × ℕ)) (r : Reading) (s : State M.quantities.Q) (f : FileFault)
        → History file h None r s → ahead r ≡ Err f → History file h (Some f) (shut r) s

  -- the lines, the oldest first
  abbrev pub lines_of : List (Item × Outcome M.quantities.Q × ℕ) → List ℕ
  lines_of [] = []
  lines_of (x ∷ h) = lines_of h ++ line_of M x.2 x.0 x.1

  abbrev pub report_of : List (Item × Outcome M.quantities.Q × ℕ) → Option FileFault → List ℕ
  report_of h None = lines_of h
  report_of h (Some f) = lines_of h ++ fault_line f

  -- the calls on the book that were made, with their answers: all but those with a number that makes no latency
  pub data Made : List (Item × Outcome M.quantities.Q × ℕ) → List (Call M.quantities.Q × Answer M.quantities.Q) → Type 0 where
    none : Made [] []
    skipped : (h : List (Item × Outcome M.quantities.Q × ℕ)) (cs : List (Call M.quantities.Q × Answer M.quantities.Q)) (e : Item) (f : LatencyFault) (n : ℕ)
        → Made h cs → Made ((e, unmade f, n) ∷ h) cs
    called_on : (h : List (Item × Outcome M.quantities.Q × ℕ)) (cs : List (Call M.quantities.Q × Answer M.quantities.Q)) (e : Item) (c : Call M.quantities.Q) (a : Answer M.quantities.Q) (n : ℕ)
        → Asks M rows e c → Made h cs → Made ((e, answered a, n) ∷ h) ((c, a) ∷ cs)

  -- The bytes are the report of a whole file: its calls are done in order, all of them or up to the fault, they have right answers on one new book, and the bytes are their lines.
  pub record Report (file bytes : List ℕ) : Type 0 where
    pub entries : List (Item × Outcome M.quantities.Q × ℕ)
    pub fault : Option FileFault
    pub reading : Reading
    pub state : State M.quantities.Q
    pub ran : History file entries fault reading state
    pub over : ahead reading ≡ Ok None
    pub calls : List (Call M.quantities.Q × Answer M.quantities.Q)
    pub made : Made entries calls
    pub right : Ran M calls state
    pub lines : bytes ≡ report_of entries fault

  -- the line that comes next
  pub data Follows (r : Reading) (s : State M.quantities.Q) : List ℕ → Type 0 where
    line_of_entry : (e : Item) (o : Outcome M.quantities.Q) (t : State M.quantities.Q) → ahead r ≡ Ok (Some e) → Does M rows s e o t → Follows r s (line_of M s.n e o)
    line_of_fault : (f : FileFault) → ahead r ≡ Err f → Follows r s (fault_line f)

  -- the bytes are the first whole lines of a file's report, and there is no room for the line after them
  pub record Cut (file : List ℕ) (room : ℕ) (bytes : List ℕ) : Type 0 where
    pub entries : List (Item × Outcome M.quantities.Q × ℕ)
    pub reading : Reading
    pub state : State M.quantities.Q
    pub ran : History file entries None reading state
    pub lines : bytes ≡ lines_of entries
    pub next : List ℕ
    pub follows : Follows reading state next
    pub full : room < length bytes + length next

  -- The calls of a list, the newest first, with the fault after them, go on to a longer one, whose further lines are the bytes.
  pub record Onward (file : List ℕ) (h : List (Item × Outcome M.quantities.Q × ℕ)) (f : Option FileFault) (r : Reading) (s : State M.quantities.Q) (bytes : List ℕ) : Type 0 where
    pub entries : List (Item × Outcome M.quantities.Q × ℕ)
    pub fault : Option FileFault
    pub ran : History file entries fault r s
    pub lines : report_of entries fault ≡ report_of h f ++ bytes

  -- what a run leaves in its row: the whole report of the file, or as many of its lines as fit
  abbrev pub Reported : List ℕ → List ℕ → List ℕ → Result ℕ Full → Type 0
  Reported file row row' (Ok k) = (bytes : List ℕ) × Report file bytes × Wrote row 0 bytes row' k
  Reported file row row' (Err k) = (bytes : List ℕ) × Cut file (length row) bytes × Wrote row 0 bytes row' k.0
