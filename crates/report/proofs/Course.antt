-- A file's calls done one after another, with their lines put into a row.
use Rattle.std.proofs.Common.{◌≡◌, ℕ, ◌+◌, ◌*◌, ◌<◌, ◌≤◌, cond, List, [], ◌∷◌, ◌++◌, length, take, Some, None, Ok, Err, Option, sym, refl, ap, ◌∙◌, subst, append_assoc, arith, length-drop}
use Rattle.std.proofs.lemmas.Bool.Decides.{nat_tests}
use Rattle.std.proofs.lemmas.List.{length-take}
use Rattle.kind.specs.Meaning.{Meaning}
use Rattle.calls.specs.State.{State, Rows, Call, Answer}
use Rattle.calls.specs.Calls.{Ran, made, fresh}
use Rattle.calls.specs.Calls as calls
use Rattle.text.specs.Writing.{Wrote}
use Rattle.text.proofs.Writes as writes
use Rattle.report.specs.Reading.{Reading, unread, ahead, past, shut}
use Rattle.report.specs.Entries.{Item, size, link, strike, offset, all_offsets, realise, issue, recall, walk, taken}
use Rattle.report.specs.Doing.{Outcome, Does, unmeasured, unwanted, called, Lent, sizes}
use Rattle.report.specs.Lines.{line_of, fault_line}
use Rattle.report.specs.History.{Step, did, failed, History, opened, then, broken, report_of, Report, Cut, Made, none, skipped, called_on, line_of_entry, line_of_fault, Onward}
use Rattle.report.specs.declared.file.FileFault.{FileFault}
use Rattle.report.specs.declared.file.FileKind.{FileKind}
use Rattle.report.specs.declared.session.Line.{Line}
use Rattle.report.proofs.Long.{ahead_fits}

-- what is left to read, and whether a fault can still come
abbrev pub left : Reading → ℕ
left r = length r.bytes + cond r.ended 0 1

some_words : (n : ℕ) (e : Item) → 1 ≤ taken n e
some_words n (size m) = grind (arith, nat_tests)
some_words n (link i j m w) = grind (arith, nat_tests)
some_words n (strike i j) = grind (arith, nat_tests)
some_words n (offset i j) = grind (arith, nat_tests)
some_words n all_offsets = grind (arith, nat_tests)
some_words n realise = grind (arith, nat_tests)
some_words n issue = grind (arith, nat_tests)
some_words n recall = grind (arith, nat_tests)
some_words n (walk ws) = grind (arith, nat_tests)

shut_less : (r : Reading) (f : FileFault) → ahead r ≡ Err f → left (shut r) < left r
shut_less r f h = grind (arith, nat_tests)

past_less : (r : Reading) (e : Item) → ahead r ≡ Ok (Some e) → left (past r e) < left r
past_less r e h =
    let k = (ahead_fits r e h).0 in
    let one = some_words r.read e in
    omega (arith, length-drop (4 * taken r.read e) r.bytes)

-- what was written lies in the row
inside : (a b bs : List ℕ) (k : ℕ) → Wrote a 0 bs b k → k ≤ length b
inside a b bs k w = omega (arith, w.ends, ap length w.front, length-take k b)

module _ {L T : Type 0} (M : Meaning L T) (r : Reading) (s : State M.quantities.Q) (m m' : Lent T) (row row' : List ℕ) (l : Line) where
  pub step_less : (r' : Reading) (s' : State M.quantities.Q) → Step M r s m m' row row' l r' s' → left r' < left r
  step_less _ _ (did e o t a d w f x) = past_less r e a
  step_less _ _ (failed f a w g x) = shut_less r f a

  pub step_within : (r' : Reading) (s' : State M.quantities.Q) → Step M r s m m' row row' l r' s' → l.bytes ≤ length row'
  step_within _ _ (did e o t x d w f y) = inside row row' (line_of M s.n e o) l.bytes w
  step_within _ _ (failed f x w g y) = inside row row' (fault_line f) l.bytes w

module _ {L T : Type 0} (M : Meaning L T) (kind : FileKind) (capacity : ℕ) (rows : Rows) where
  abbrev Entries : Type 0
  Entries = List (Item × Outcome M.quantities.Q × ℕ)

  -- so much of a file is done since the list h of its calls, and the further lines are what was written to the row a
  pub record Going (file : List ℕ) (h : Entries) (f : Option FileFault) (r : Reading) (s : State M.quantities.Q) (a b : List ℕ) (at : ℕ) : Type 0 where
    pub bytes : List ℕ
    pub onward : Onward M kind capacity rows file h f r s bytes
    pub wrote : Wrote a 0 bytes b at

  unbroken : (file : List ℕ) (h : Entries) (f : FileFault) (r : Reading) (s : State M.quantities.Q) → History M kind capacity rows file h (Some f) r s → ahead r ≡ Ok None
  unbroken file h f _ s (broken _ r _ _ x y) = refl

  module _ (file : List ℕ) (h₀ : Entries) (f₀ : Option FileFault) (r : Reading) (s : State M.quantities.Q) (a b : List ℕ) (m m' : Lent T) (row row' : List ℕ) (at : ℕ) (l : Line) (same : sizes m ≡ rows) where
    pub goes : (r' : Reading) (s' : State M.quantities.Q) (c : List ℕ) (end : ℕ) → Going file h₀ f₀ r s a b at → Step M r s m m' row row' l r' s' → Wrote b at (take l.bytes row') c end → Going file h₀ f₀ r' s' a c end
    goes _ _ c end g (did e o t x d w q y) v = go g.onward.entries g.onward.fault g.onward.ran g.onward.lines
      where
        go : (h : Entries) (f : Option FileFault) → History M kind capacity rows file h f r s → report_of M kind capacity rows h f ≡ report_of M kind capacity rows h₀ f₀ ++ g.bytes → Going file h₀ f₀ (past r e) t a c end
        go h None ran lines = record {
          bytes = g.bytes ++ line_of M s.n e o;
          onward = record { entries = (e, o, s.n) ∷ h; fault = None; ran = then h r s t e o ran x (subst (λ z. Does M z s e o t) same d); lines = ap (λ z. z ++ line_of M s.n e o) lines ∙ append_assoc (report_of M kind capacity rows h₀ f₀) g.bytes (line_of M s.n e o) };
          wrote = writes.then g.wrote (subst (λ (bs : List ℕ). Wrote b at bs c end) w.front v);
        }
        go h (Some f) ran lines = absurd (let no : ahead r ≡ Ok None = unbroken file h f r s ran in let z : ◌≡◌ {A = ℕ} 0 1 = cc in omega arith)
    goes _ _ c end g (failed f x w q y) v = go g.onward.entries g.onward.fault g.onward.ran g.onward.lines
      where
        go : (h : Entries) (p : Option FileFault) → History M kind capacity rows file h p r s → report_of M kind capacity rows h p ≡ report_of M kind capacity rows h₀ f₀ ++ g.bytes → Going file h₀ f₀ (shut r) s a c end
        go h None ran lines = record {
          bytes = g.bytes ++ fault_line f;
          onward = record { entries = h; fault = Some f; ran = broken h r s f ran x; lines = ap (λ z. z ++ fault_line f) lines ∙ append_assoc (report_of M kind capacity rows h₀ f₀) g.bytes (fault_line f) };
          wrote = writes.then g.wrote (subst (λ (bs : List ℕ). Wrote b at bs c end) w.front v);
        }
        go h (Some p) ran lines = absurd (let no : ahead r ≡ Ok None = unbroken file h p r s ran in let z : ◌≡◌ {A = ℕ} 0 1 = cc in omega arith)

  -- the calls of a history have right answers
  pub righted : (file : List ℕ) (h : Entries) (f : Option FileFault) (r : Reading) (s : State M.quantities.Q) → History M kind capacity rows file h f r s
      → (cs : List (Call M.quantities.Q × Answer M.quantities.Q)) × Made M kind capacity rows h cs × Ran M cs s
  righted file _ _ _ _ opened = ([], none, made capacity)
  righted file _ _ _ _ (then h r s t e o before x (unmeasured i j m w k)) = let y = righted file h None r s before in (y.0, skipped h y.0 _ _ _ y.1, y.2)
  righted file _ _ _ _ (then h r s t e o before x (unwanted i j m w p k l)) = let y = righted file h None r s before in (y.0, skipped h y.0 _ _ _ y.1, y.2)
  righted file _ _ _ _ (then h r s t e o before x (called _ c a _ asks right next)) =
      let y = righted file h None r s before in
      ((c, a) ∷ y.0, called_on h y.0 e c a _ asks y.1, calls.then y.0 s t c a y.2 right next)
  righted file _ _ _ _ (broken h r s f before x) = righted file h None r s before

  pub ends : (file : List ℕ) (r : Reading) (s : State M.quantities.Q) (a b : List ℕ) (at : ℕ) → Going file [] None r s a b at → ahead r ≡ Ok None
      → (bytes : List ℕ) × Report M kind capacity rows file bytes × Wrote a 0 bytes b at
  ends file r s a b at g over =
      let o = g.onward in
      let y = righted file o.entries o.fault r s o.ran in
      (g.bytes, record { entries = o.entries; fault = o.fault; reading = r; state = s; ran = o.ran; over = over; calls = y.0; made = y.1; right = y.2; lines = sym o.lines }, g.wrote)

  module _ (file : List ℕ) (r : Reading) (s : State M.quantities.Q) (a b : List ℕ) (m m' : Lent T) (row row' : List ℕ) (at : ℕ) (l : Line) (same : sizes m ≡ rows) where
    abbrev Cuts : Type 0
    Cuts = (bytes : List ℕ) × Cut M kind capacity rows file (length a) bytes × Wrote a 0 bytes b at

    pub cuts : (r' : Reading) (s' : State M.quantities.Q) → Going file [] None r s a b at → Step M r s m m' row row' l r' s' → length a < at + l.bytes → Cuts
    cuts _ _ g (did e o t x d w q y) less = cut g.onward.entries g.onward.fault g.onward.ran g.onward.lines
      where
        cut : (h : Entries) (f : Option FileFault) → History M kind capacity rows file h f r s → report_of M kind capacity rows h f ≡ g.bytes → Cuts
        cut h None ran lines = (g.bytes, record { entries = h; reading = r; state = s; ran = ran; lines = sym lines; next = line_of M s.n e o; follows = line_of_entry e o t x (subst (λ z. Does M z s e o t) same d); full = omega (arith, g.wrote.ends, w.ends) }, g.wrote)
        cut h (Some f) ran lines = absurd (let no : ahead r ≡ Ok None = unbroken file h f r s ran in let z : ◌≡◌ {A = ℕ} 0 1 = cc in omega arith)
    cuts _ _ g (failed f x w q y) less = cut g.onward.entries g.onward.fault g.onward.ran g.onward.lines
      where
        cut : (h : Entries) (p : Option FileFault) → History M kind capacity rows file h p r s → report_of M kind capacity rows h p ≡ g.bytes → Cuts
        cut h None ran lines = (g.bytes, record { entries = h; reading = r; state = s; ran = ran; lines = sym lines; next = fault_line f; follows = line_of_fault f x; full = omega (arith, g.wrote.ends, w.ends) }, g.wrote)
        cut h (Some p) ran lines = absurd (let no : ahead r ≡ Ok None = unbroken file h p r s ran in let z : ◌≡◌ {A = ℕ} 0 1 = cc in omega arith)

  pub opens : (file : List ℕ) (r : Reading) (s : State M.quantities.Q) → r ≡ unread kind file → s ≡ fresh M capacity → History M kind capacity rows file [] None r s
  opens file r s p q = rw (p, q) opened

pub same_sizes : {T : Type 0} (a a' : List T) (b b' d d' : List ℕ) → length a ≡ length a' → length b ≡ length b' → length d ≡ length d' → sizes (record { totals = a; numbers = b; steps = d }) ≡ sizes (record { totals = a'; numbers = b'; steps = d' })
same_sizes a a' b b' d d' p q r = rw (p, q, r) refl

-- a line is all that was written to its row
pub step_wrote : {L T : Type 0} (M : Meaning L T) (r : Reading) (s : State M.quantities.Q) (m m' : Lent T) (row row' : List ℕ) (l : Line) (r' : Reading) (s' : State M.quantities.Q)
    → Step M r s m m' row row' l r' s' → Wrote row 0 (take l.bytes row') row' l.bytes
step_wrote M r s m m' row row' l _ _ (did e o t x d w f y) = subst (λ bs. Wrote row 0 bs row' l.bytes) (sym w.front) w
step_wrote M r s m m' row row' l _ _ (failed f x w g y) = subst (λ bs. Wrote row 0 bs row' l.bytes) (sym w.front) w
