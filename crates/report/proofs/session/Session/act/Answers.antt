use Rattle.std.proofs.Common.{ap, ◌∙◌, subst}
use Rattle.text.specs.Writing.{Wrote}
use Rattle.book.specs.Memory.{state_of}
use Rattle.report.specs.History.{did}
use Rattle.report.specs.Entries.{item_of}
use Rattle.report.specs.Reading.{reading_of}
use Rattle.report.specs.Doing.{outcome_of, lent_of}
use Rattle.report.specs.Lines.{line_of}
use Rattle.report.specs.Faults.{reply_fault}
use Rattle.report.proofs.Long.{ahead_short}
use Rattle.report.proofs.Deeds.{told_fault, roomy, numberless, same_outcome}
use Rattle.report.proofs.session.Session.act.Goals as goal

pub perform-reply-requires : goal.perform-reply-requires
perform-reply-requires g c = ahead_short (reading_of c.args.self.now.reader.at) (item_of c.args.e) c.requires.next

pub show-bytes-requires : goal.show-bytes-requires
show-bytes-requires g c = record {
  room = c.requires.room;
  few = roomy g.K.Kind.meaning _ c.perform-reply.result c.perform-reply.new.totals c.perform-reply.new.numbers c.perform-reply.new.steps c.perform-reply.ensures.backed;
}

pub returns : goal.returns
returns g c =
    let M = g.K.Kind.meaning in
    let d = c.perform-reply.ensures in
    let r = c.perform-reply.result in
    let ts = c.perform-reply.new.totals in
    let ns = c.perform-reply.new.numbers in
    let ss = c.perform-reply.new.steps in
    let n = (state_of M c.args.self.now.book.now.store).n in
    let w = c.show-bytes.ensures.wrote n (numberless M n r ts ns ss d.backed) in
    rw c.pass.ensures
    (did (item_of c.args.e) (outcome_of M r (lent_of ts ns ss)) _ c.requires.next d.does (subst (λ o. Wrote c.args.row.now 0 (line_of M n (item_of c.args.e) o) c.show-bytes.new.row c.show-bytes.result) (same_outcome M r ts ns ss) w)
    (c.fault_in.ensures ∙ ap (λ p. reply_fault p r) c.first_word-first.ensures.value ∙ told_fault M _ n r (lent_of ts ns ss) d.backed) d.left)
