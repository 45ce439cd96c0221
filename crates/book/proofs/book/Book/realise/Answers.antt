use Rattle.calls.proofs.Asking.{realise_verdict, loop_reads_back}
use Rattle.book.specs.Memory.{state_of, rows_of}
use Rattle.book.proofs.Told.{shown_few, shown_loop}
use Rattle.book.proofs.Walks.{few_links}
use Rattle.book.proofs.book.Book.realise.Goals as goal

pub returns-clause-verdict : goal.returns-clause-verdict
returns-clause-verdict g c =
    let M = g.K.Kind.meaning in
    let s = c.args.self.now.store in
    realise_verdict M (state_of M s) (rows_of c.args.totals.now c.args.numbers.now c.args.steps.now) _ c.schedule.ensures.call.answer

pub returns-clause-readback : goal.returns-clause-readback
returns-clause-readback g c =
    let M = g.K.Kind.meaning in
    let s = c.args.self.now.store in
    let a = c.schedule.ensures in
    let rows = rows_of c.args.totals.now c.args.numbers.now c.args.steps.now in
    let few = few_links M s c.args.self.now.held in
    let len = shown_few c.schedule.result c.schedule.new.steps s.n a.rows.count c.args.self.now.held.3 in
    loop_reads_back M (state_of M s) rows _ _ a.call.answer few len (shown_loop M c.schedule.result c.schedule.new.totals c.schedule.new.steps a.rows.words)
