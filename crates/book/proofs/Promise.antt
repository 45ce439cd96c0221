-- A right answer with what it leaves is all that a call promises.
use Rattle.std.proofs.Common.{[], length}
use native.Mathlib.Nat.{min-le_right}
use Rattle.kind.specs.Meaning.{Meaning}
use Rattle.calls.specs.State.{Call, Answer, refused, First}
use Rattle.calls.specs.Calls.{checks, Right, turned_down, Next, unchanged, then}
use Rattle.calls.specs.declared.Refusal.{Refusal}
use Rattle.calls.proofs.Runs.{untorn}
use Rattle.calls.proofs.Whole.{one_answer}
use Rattle.book.specs.declared.store.Store.{Store}
use Rattle.book.specs.Memory.{state_of, Answered}

module _ {L T : Type 0} (M : Meaning L T) where
  abbrev Q : Type 0
  Q = M.quantities.Q

  pub answered : (s t : Store L) (c : Call Q) (a : Answer Q) → Right M (state_of M s) c a → Next M (state_of M s) c a (state_of M t) → Answered M s c a t
  answered s t c a r n = record {
    answer = r;
    state = n;
    ran = λ h ran. then h (state_of M s) (state_of M t) c a ran r n;
    only = λ h ran b right. one_answer M h (state_of M s) ran (min-le_right (length s.links.now) 8192) c a b r right;
    fits = λ h ran. untorn M _ (state_of M t) (then h (state_of M s) (state_of M t) c a ran r n);
  }

  pub refuses : (s : Store L) (c : Call Q) (e : Refusal) → First (checks M (state_of M s) c) e [] → Answered M s c (refused e []) s
  refuses s c e f = answered s s c (refused e []) (turned_down e [] f) (unchanged c e [])
