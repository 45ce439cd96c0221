use Rattle.calls.proofs.Linking.{verdict, reads_back}
use Rattle.search.specs.Records.{link_of}
use Rattle.book.specs.Memory.{state_of, rows_of}
use Rattle.book.proofs.Told.{shown_few, shown_words}
use Rattle.book.proofs.Walks.{few_links}
use Rattle.book.proofs.book.Book.link.Goals as goal

pub returns-clause-verdict : goal.returns-clause-verdict
returns-clause-verdict g c =
    let M = g.K.Kind.meaning in
    let s = c.args.self.now.store in
    let a = c.enter.ensures.call in
    verdict M (state_of M s) (link_of M c.args.new) (rows_of c.args.totals.now c.args.numbers.now c.args.steps.now) _ _ a.answer a.state

pub returns-clause-readback : goal.returns-clause-readback
returns-clause-readback g c =
    let M = g.K.Kind.meaning in
    let s = c.args.self.now.store in
    let a = c.enter.ensures in
    let rows = rows_of c.args.totals.now c.args.numbers.now c.args.steps.now in
    let few = few_links M s c.args.self.now.held in
    let len = shown_few c.enter.result c.enter.new.steps s.n a.rows.count c.args.self.now.held.3 in
    reads_back M (state_of M s) (link_of M c.args.new) rows _ _ a.call.answer few len (shown_words c.enter.result c.enter.new.steps a.rows.words)
