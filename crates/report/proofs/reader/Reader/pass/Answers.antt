use Rattle.std.proofs.Common.{◌*◌, ◌≤◌, length, ap, ◌∙◌, arith, length-drop, rules}
use Rattle.std.proofs.lemmas.List.{take_rest}
use Rattle.report.specs.Entries.{item_of}
use Rattle.report.specs.Reading.{reading_of}
use Rattle.report.proofs.Long.{ahead_fits, within, bounded}
use Rattle.report.proofs.reader.Reader.pass.Goals as goal

pub overflow_cast-self : goal.overflow_cast-self
overflow_cast-self c =
    let b = bounded (reading_of c.args.self.now.at) (item_of c.args.e) c.words_taken-taken.result c.requires c.args.self.now.placed c.words_taken-taken.ensures in
    search rules

pub overflow_add-self : goal.overflow_add-self
overflow_add-self c =
    let b = bounded (reading_of c.args.self.now.at) (item_of c.args.e) c.words_taken-taken.result c.requires c.args.self.now.placed c.words_taken-taken.ensures in
    search rules

pub overflow_mul-self : goal.overflow_mul-self
overflow_mul-self c =
    let b = bounded (reading_of c.args.self.now.at) (item_of c.args.e) c.words_taken-taken.result c.requires c.args.self.now.placed c.words_taken-taken.ensures in
    search rules

pub slice_bounds-self-count : goal.slice_bounds-self-count
slice_bounds-self-count c = omega (arith, (ahead_fits (reading_of c.args.self.now.at) (item_of c.args.e) c.requires).0)

pub slice_bounds-self-start : goal.slice_bounds-self-start
slice_bounds-self-start c = let h = (ahead_fits (reading_of c.args.self.now.at) (item_of c.args.e) c.requires).0 in search rules

pub invariant_of-self : goal.invariant_of-self
invariant_of-self c =
    let bs = c.args.self.now.at.rest.now in
    let f = ahead_fits (reading_of c.args.self.now.at) (item_of c.args.e) c.requires in
    let l = ap length (take_rest bs (4 * c.words_taken-taken.result)) in
    let k : 4 * c.words_taken-taken.result ≤ length bs = omega (arith, f.0) in
    record { placed = λ _. within c.args.self.now.at.read c.words_taken-taken.result (length bs) _ c.args.self.now.placed f.1 k (l ∙ length-drop (4 * c.words_taken-taken.result) bs) }
