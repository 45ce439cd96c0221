use Rattle.calls.proofs.Asking.{offset_verdict}
use Rattle.calls.proofs.Runs.{untorn}
use Rattle.book.specs.Memory.{state_of, rows_of}
use Rattle.book.proofs.book.Book.offset.Goals as goal

pub returns-clause-verdict : goal.returns-clause-verdict
returns-clause-verdict g c = λ h ran.
    let M = g.K.Kind.meaning in
    let s = state_of M c.args.self.now.store in
    let rows = rows_of c.args.totals.now c.args.numbers.now c.args.steps.now in
    offset_verdict M s c.args.i c.args.j rows (untorn M h s ran) _ c.difference.ensures.call.answer
