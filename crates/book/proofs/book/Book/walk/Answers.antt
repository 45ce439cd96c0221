use Rattle.std.proofs.Common.{◌<◌, ◌≤◌, [], length, take, sym, refl, subst, inl, arith}
use Rattle.std.proofs.lemmas.List.{length-take-le, take_more, take_all}
use Rattle.std.proofs.lemmas.Result.{err_from_is_err_and}
use Rattle.book.specs.Memory.{state_of}
use Rattle.book.specs.Walking.{Walked}
use Rattle.book.proofs.Promise.{refuses}
use Rattle.book.proofs.Walked.{stopped, arrived}
use Rattle.book.proofs.book.Book.walk.Goals as goal

pub returns-then-words-gt-MAX_WORDS-clause-call : goal.returns-then-words-gt-MAX_WORDS-clause-call
returns-then-words-gt-MAX_WORDS-clause-call g c = refuses _ _ _ _ (inl (refl, c.if-words-gt-MAX_WORDS.true, refl))

pub loop-done-init : goal.loop-done-init
loop-done-init g c = record { first = 0; steps = []; read = refl; measures = c.zero.ensures.0; wants = c.zero-2.ensures.0; low = c.zero.ensures.1; high = c.zero-2.ensures.1 }

pub returns-in_err-trip-clause-call : goal.returns-in_err-trip-clause-call
returns-in_err-trip-clause-call g c =
    let done = c.loop-done.done in
    let words = c.args.words.now in
    let lt : done < length words = c.loop-done-test.true in
    let few : length words ≤ 65536 = c.if-words-gt-MAX_WORDS.false in
    let p = err_from_is_err_and c.from_residual.result c.from_residual.ensures.1 in
    let f = c.in_err-trip.ensures (take done words) (length-take-le done words (omega arith)) (omega arith) c.loop-done.invariant in
    rw (p.1, p.2) (stopped g.K.Kind.meaning c.args.self.now.store c.args.self.now.held words few done lt c.loop-done.trip c.loop-done.invariant _ f)

pub loop-done-preserved : goal.loop-done-preserved
loop-done-preserved g c =
    let M = g.K.Kind.meaning in
    let done = c.loop-done.done in
    let words = c.args.words.now in
    let lt : done < length words = c.loop-done-test.true in
    let few : length words ≤ 65536 = c.if-words-gt-MAX_WORDS.false in
    let f = c.in_ok-trip.ensures (take done words) (length-take-le done words (omega arith)) (omega arith) c.loop-done.invariant in
    subst (λ z. Walked M (state_of M c.args.self.now.store) z c.in_ok-trip.trip) (sym (take_more words done 0 lt)) f

pub returns : goal.returns
returns g c =
    let M = g.K.Kind.meaning in
    let words = c.args.words.now in
    let w = subst (λ z. Walked M (state_of M c.args.self.now.store) z c.loop-done.trip) (take_all c.loop-done.done words (omega arith)) c.loop-done.invariant in
    record {
      call = arrived M c.args.self.now.store c.args.self.now.held words c.if-words-gt-MAX_WORDS.false c.loop-done.trip w;
      reach = (M.wider (length words) 65536 _ c.if-words-gt-MAX_WORDS.false w.low, M.wider (length words) 65536 _ c.if-words-gt-MAX_WORDS.false w.high);
    }
