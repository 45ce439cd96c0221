-- Replies that tell what a call of a file did.
use Rattle.std.proofs.Common.{◌≡◌, ℕ, ◌-◌, ◌*◌, ◌≤◌, List, [], map, length, take, drop, ℤ, IsErrAnd, Some, Ok, Err, Result, sym, refl, ap, subst, arith, w32, SFits, to_z, of_z}
use lib.ListN.{length-map}
use Rattle.std.proofs.lemmas.List.{length-take-le, get_or-take}
use Rattle.std.proofs.lemmas.Int.{to_z-of_z}
use Rattle.kind.specs.Meaning.{Meaning}
use Rattle.network.specs.Words.{word, steps_of}
use Rattle.calls.specs.declared.Refusal.{Refusal}
use Rattle.calls.specs.State.{State, Call, Rows, WALK, OFFSETS, done, total, totals, offsets, refused}
use Rattle.calls.specs.Calls.{Right, yields, Next}
use Rattle.calls.proofs.Linking.{at_most}
use Rattle.book.specs.declared.store.Refused.{Refused}
use Rattle.search.specs.Settled.{offset as meant}
use Rattle.book.specs.Memory.{RowsLeft, RowsUsed}
use Rattle.report.specs.Entries.{Item, link, walk}
use Rattle.report.specs.declared.fault.LatencyFault.{LatencyFault}
use Rattle.report.specs.declared.fault.LatencyFault.TheVariants.{Measured, Wanted}
use Rattle.report.specs.declared.fault.CallFault.{CallFault}
use Rattle.report.specs.declared.fault.CallFault.TheVariants.{Latency, Book}
use Rattle.report.specs.declared.fault.Good.{Good}
use Rattle.report.specs.declared.fault.Good.TheVariants.{Done, Total, Totals, Offsets, Schedule}
use Rattle.report.specs.Doing.{Outcome, answered, Asks, for_walk, Does, unmeasured, unwanted, called, Lent, lent_of, sizes, Early, Unread, Unasked, Did, Made, Backed, Near, Room, outcome_of}
use Rattle.report.specs.Faults.{fault_of, reply_fault}
use Rattle.report.specs.declared.fault.Fault.TheVariants.{Call as OfCall}

pub asked : {L T : Type 0} (M : Meaning L T) (rows : Rows) (e f : Item) (c : Call M.quantities.Q) → e ≡ f → Asks M rows f c → Asks M rows e c
asked M rows e f c h a = subst (λ (x : Item). Asks M rows x c) (sym h) a

pub asks_walk : {L T : Type 0} (M : Meaning L T) (rows : Rows) (ws vs : List ℕ) → ws ≡ vs → Asks M rows (walk vs) (WALK ws)
asks_walk M rows ws vs e = subst (λ (xs : List ℕ). Asks M rows (walk xs) (WALK ws)) e (for_walk ws)

-- a number that was passed on is itself
pub as_passed : {L T : Type 0} (M : Meaning L T) (m w : ℤ) (r : Result (L × L) LatencyFault) → SFits w32 m → SFits w32 w → Made M (to_z w32 (of_z w32 m)) (to_z w32 (of_z w32 w)) r → Made M m w r
as_passed M m w r f h k = subst (λ (z : ℤ). Made M m z r) (to_z-of_z w32 w h) (subst (λ (z : ℤ). Made M z (to_z w32 (of_z w32 w)) r) (to_z-of_z w32 m f) k)

-- as many steps as words
length-shown : (k : ℕ) (row : List ℕ) → k ≤ length row → take k row ≡ map word (steps_of (take k row)) → length (steps_of (take k row)) ≡ k
length-shown k row h w = let a = length-take-le k row h in let b = ap length w in let c = length-map (steps_of (take k row)) word in omega arith

module _ {L T : Type 0} (M : Meaning L T) (s : State M.quantities.Q) (e : Item) where
  abbrev Q : Type 0
  Q = M.quantities.Q

  -- a call that leaves the rows alone
  module _ (t : State Q) (m : Lent T) (c : Call Q) (asks : Asks M (sizes m) e c) where
    pub refuses : (x : Refusal) (r : Result (Good T) CallFault) → IsErrAnd r (λ y. y ≡ Book (record { refusal = x; shown = 0 })) → Right M s c (refused x []) → Next M s c (refused x []) t → Did M s e r t m m
    refuses x (Ok v) h right next = absurd h
    refuses x (Err y) h right next =
        subst (λ (z : CallFault). Did M s e (Err z) t m m) (sym h)
        (record { does = called e c (refused x []) t asks right next; backed = (omega arith, omega arith, refl); left = record { early = λ _. refl; totals = refl; numbers = refl; steps = refl; words = refl } })

    pub does : Right M s c done → Next M s c done t → Did M s e (Ok Done) t m m
    does right next = record { does = called e c done t asks right next; backed = tt; left = record { early = λ _. refl; totals = refl; numbers = refl; steps = refl; words = refl } }

    pub gives_two : (v u : T) → Right M s c (totals (M.total v) (M.total u)) → Next M s c (totals (M.total v) (M.total u)) t → M.within 16777216 v × M.within 16777216 u → Did M s e (Ok (Totals v u)) t m m
    gives_two v u right next near = record { does = called e c (totals (M.total v) (M.total u)) t asks right next; backed = near; left = record { early = λ _. refl; totals = refl; numbers = refl; steps = refl; words = refl } }

module _ {L T : Type 0} (M : Meaning L T) (s : State M.quantities.Q) (i j : ℕ) (m w : ℤ) (a : Lent T) where
  -- a number made no latency
  pub no_latency : (f : LatencyFault) (r : Result (Good T) CallFault) → IsErrAnd r (λ y. y ≡ Latency f) → Made M m w (Err f) → Did M s (link i j m w) r s a a
  no_latency f (Ok v) h k = absurd h
  no_latency Measured (Err y) h k =
      subst (λ (z : CallFault). Did M s (link i j m w) (Err z) s a a) (sym h)
      (record { does = unmeasured i j m w k; backed = tt; left = record { early = λ _. refl; totals = refl; numbers = refl; steps = refl; words = refl } })
  no_latency Wanted (Err y) h k =
      subst (λ (z : CallFault). Did M s (link i j m w) (Err z) s a a) (sym h)
      (record { does = unwanted i j m w (M.latency k.0) k.1 k.2; backed = tt; left = record { early = λ _. refl; totals = refl; numbers = refl; steps = refl; words = refl } })

module _ {L T : Type 0} (M : Meaning L T) (s : State M.quantities.Q) (e : Item) (unread : (o : Outcome M.quantities.Q) → Early e o → Unread o) (a b : Lent T) (t : State M.quantities.Q) (c : Call M.quantities.Q)
    (small : s.n ≤ 1024) (asks : Asks M (sizes a) e c) where
  all_same : b.totals ≡ a.totals → b.numbers ≡ a.numbers → b.steps ≡ a.steps → b ≡ a
  all_same p q r = λ z. record { totals = p z; numbers = q z; steps = r z }

  -- a LINK or a REALISE came to its verdict, or was turned down before
  pub linked : RowsLeft {X = Unit {0}} s.n (Ok tt) a.totals b.totals a.numbers b.numbers a.steps b.steps → Right M s c done → Next M s c done t → Did M s e (Ok Done) t a b
  linked rows right next = record {
    does = called e c done t asks right next;
    backed = tt;
    left = record { early = λ x. absurd (unread _ x); totals = rows.totals; numbers = rows.numbers; steps = rows.steps; words = rows.words };
  }

  pub scheduled : (k : ℕ) → k ≡ s.n → RowsLeft {X = Unit {0}} s.n (Ok tt) a.totals b.totals a.numbers b.numbers a.steps b.steps → s.n ≤ length b.totals → Near M s.n b.totals
      → Right M s c (offsets (meant M b.totals)) → Next M s c (offsets (meant M b.totals)) t → Did M s e (Ok (Schedule k)) t a b
  scheduled k q rows room near right next = record {
    does = called e c (offsets (meant M b.totals)) t asks right next;
    backed = (q, omega arith, omega arith, subst (λ m. Near M m b.totals) (sym q) near);
    left = record { early = λ x. absurd (unread _ x); totals = rows.totals; numbers = rows.numbers; steps = rows.steps; words = rows.words };
  }

  pub turned : (x : Refused) (r : Result (Good T) CallFault) → IsErrAnd r (λ y. y ≡ Book x) → RowsLeft {X = Unit {0}} s.n (Err x) a.totals b.totals a.numbers b.numbers a.steps b.steps
      → Right M s c (refused x.refusal (steps_of (take x.shown b.steps))) → Next M s c (refused x.refusal (steps_of (take x.shown b.steps))) t → Did M s e r t a b
  turned x (Ok v) h rows right next = absurd h
  turned x (Err y) h rows right next =
      let n = length-shown x.shown b.steps rows.room rows.words in
      subst (λ (z : CallFault). Did M s e (Err z) t a b) (sym h)
      (record {
        does = called e c (refused x.refusal (steps_of (take x.shown b.steps))) t asks right next;
        backed = (omega (arith, rows.count), rows.room, rows.words);
        left = record {
          early = λ u. let q = rows.early (unread _ u) in all_same q.0 q.1 q.2;
          totals = rows.totals;
          numbers = rows.numbers;
          steps = subst (λ k. drop k b.steps ≡ drop k a.steps) (sym n) rows.steps;
          words = subst (λ k. take k b.steps ≡ map word (steps_of (take x.shown b.steps))) (sym n) rows.words;
        };
      })

module _ {L T : Type 0} (M : Meaning L T) (s : State M.quantities.Q) (e : Item) (unasked : (o : Outcome M.quantities.Q) → Early e o → Unasked o) (ts ts' : List T) (ns ns' ss : List ℕ) (t : State M.quantities.Q) (c : Call M.quantities.Q)
    (asks : Asks M (sizes (lent_of ts ns ss)) e c) where
  -- an OFFSET or an OFFSETS was answered, or turned down
  pub asked_one : (v : T) → RowsUsed {X = T} s.n (Ok v) ts ts' ns ns' → M.within 16777216 v → Right M s c (total (M.total v)) → Next M s c (total (M.total v)) t → Did M s e (Ok (Total v)) t (lent_of ts ns ss) (lent_of ts' ns' ss)
  asked_one v rows near right next = record {
    does = called e c (total (M.total v)) t asks right next;
    backed = near;
    left = record { early = λ x. absurd (unasked _ x); totals = rows.totals; numbers = rows.numbers; steps = refl; words = refl };
  }

  pub asked_all : (k : ℕ) → k ≡ s.n → s.n ≤ 1024 → RowsUsed {X = Unit {0}} s.n (Ok tt) ts ts' ns ns' → s.n ≤ length ts' → Near M s.n ts'
      → Right M s c (offsets (meant M (take s.n ts'))) → Next M s c (offsets (meant M (take s.n ts'))) t → Did M s e (Ok (Offsets k)) t (lent_of ts ns ss) (lent_of ts' ns' ss)
  asked_all k q small rows room near right next = record {
    does = subst (λ m. Does M (sizes (lent_of ts ns ss)) s e (answered (offsets (meant M (take m ts')))) t) (sym q) (called e c (offsets (meant M (take s.n ts'))) t asks right next);
    backed = (q, omega arith, omega arith, subst (λ m. Near M m ts') (sym q) near);
    left = record { early = λ x. absurd (unasked _ x); totals = rows.totals; numbers = rows.numbers; steps = refl; words = refl };
  }

  pub declined : {X : Type 0} (x : Refusal) (r : Result (Good T) CallFault) → IsErrAnd r (λ y. y ≡ Book (record { refusal = x; shown = 0 })) → RowsUsed {X = X} s.n (Err x) ts ts' ns ns'
      → Right M s c (refused x []) → Next M s c (refused x []) t → Did M s e r t (lent_of ts ns ss) (lent_of ts' ns' ss)
  declined x (Ok v) h rows right next = absurd h
  declined x (Err y) h rows right next =
      subst (λ (z : CallFault). Did M s e (Err z) t (lent_of ts ns ss) (lent_of ts' ns' ss)) (sym h)
      (record {
        does = called e c (refused x []) t asks right next;
        backed = (omega arith, omega arith, refl);
        left = record { early = λ u. let q = rows.early (unasked _ u) in λ z. record { totals = q.0 z; numbers = q.1 z; steps = ss }; totals = rows.totals; numbers = rows.numbers; steps = refl; words = refl };
      })

-- the fault that a reply carries is the one that its outcome tells
pub told_fault : {L T : Type 0} (M : Meaning L T) (p n : ℕ) (r : Result (Good T) CallFault) (m : Lent T) → Backed M n r m → reply_fault p r ≡ fault_of p (outcome_of M r m)
told_fault M p n (Ok Done) m b = refl
told_fault M p n (Ok (Total t)) m b = refl
told_fault M p n (Ok (Totals t u)) m b = refl
told_fault M p n (Ok (Offsets k)) m b = refl
told_fault M p n (Ok (Schedule k)) m b = refl
told_fault M p n (Err (Latency Measured)) m b = refl
told_fault M p n (Err (Latency Wanted)) m b = refl
told_fault M p n (Err (Book x)) m b = ap (λ k. Some (record { fault = OfCall (Book (record { refusal = x.refusal; shown = k })); place = p })) (sym (length-shown x.shown m.steps b.1 b.2))

-- what stands behind a reply has room for it; the numbers row plays no part
pub roomy : {L T : Type 0} (M : Meaning L T) (n : ℕ) (r : Result (Good T) CallFault) (ts : List T) (ns ss : List ℕ) → Backed M n r (lent_of ts ns ss) → Room r (lent_of ts [] ss)
roomy M n (Ok Done) ts ns ss b = tt
roomy M n (Ok (Total t)) ts ns ss b = tt
roomy M n (Ok (Totals t u)) ts ns ss b = tt
roomy M n (Ok (Offsets k)) ts ns ss b = (b.1, b.2)
roomy M n (Ok (Schedule k)) ts ns ss b = (b.1, b.2)
roomy M n (Err (Latency f)) ts ns ss b = tt
roomy M n (Err (Book x)) ts ns ss b = (b.0, b.1)

pub numberless : {L T : Type 0} (M : Meaning L T) (n : ℕ) (r : Result (Good T) CallFault) (ts : List T) (ns ss : List ℕ) → Backed M n r (lent_of ts ns ss) → Backed M n r (lent_of ts [] ss)
numberless M n (Ok Done) ts ns ss b = tt
numberless M n (Ok (Total t)) ts ns ss b = b
numberless M n (Ok (Totals t u)) ts ns ss b = b
numberless M n (Ok (Offsets k)) ts ns ss b = b
numberless M n (Ok (Schedule k)) ts ns ss b = b
numberless M n (Err (Latency f)) ts ns ss b = tt
numberless M n (Err (Book x)) ts ns ss b = b

pub same_outcome : {L T : Type 0} (M : Meaning L T) (r : Result (Good T) CallFault) (ts : List T) (ns ss : List ℕ) → outcome_of M r (lent_of ts [] ss) ≡ outcome_of M r (lent_of ts ns ss)
same_outcome M (Ok Done) ts ns ss = refl
same_outcome M (Ok (Total t)) ts ns ss = refl
same_outcome M (Ok (Totals t u)) ts ns ss = refl
same_outcome M (Ok (Offsets k)) ts ns ss = refl
same_outcome M (Ok (Schedule k)) ts ns ss = refl
same_outcome M (Err (Latency f)) ts ns ss = refl
same_outcome M (Err (Book x)) ts ns ss = refl

-- a row of offsets was answered, so the totals row has room for it
pub offsets_room : {L T : Type 0} (M : Meaning L T) (s : State M.quantities.Q) (rows : Rows) (c : ℕ → M.quantities.Q) → Right M s (OFFSETS rows) (offsets c) → 2 * s.n ≤ rows.totals
offsets_room M s rows c (yields _ (p, _) v) = at_most (2 * s.n) rows.totals (λ k. p (λ e. k e.0))

-- the first n places of a row are those of its first n
pub whole_near : {L T : Type 0} (M : Meaning L T) (n : ℕ) (row : List T) → Near M n (take n row) → Near M n row
whole_near M n row h v o t = subst (M.within 16777216) (get_or-take n row (v - 1) t (omega (arith, o.0, o.1))) (h v o t)
