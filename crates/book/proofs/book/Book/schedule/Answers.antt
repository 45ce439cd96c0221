use Rattle.std.proofs.Common.{◌≡◌, ◌≤◌, map, length, take, drop, ◌*◌, Ok, Err, sym, refl, ◌∙◌, subst, subst₂, arith}
use Rattle.std.proofs.lemmas.Result.{err_from_is_err_and}
use Rattle.calls.specs.declared.Refusal.TheVariants.{NegativeLoop}
use Rattle.calls.specs.State.{REALISE, offsets, refused}
use Rattle.calls.specs.Calls.{Right, unchanged, by_realise}
use Rattle.calls.specs.Verdicts.{Asked}
use Rattle.calls.proofs.Asking.{realise_unordered, realise_short, realise_loop, realise_least}
use Rattle.network.specs.Words.{steps_of}
use Rattle.search.specs.Records.{link_of}
use Rattle.search.specs.Settled.{offset}
use Rattle.schedule.specs.Least.{Scheduled}
use Rattle.book.specs.Memory.{state_of, rows_of}
use Rattle.book.proofs.Promise.{answered}
use Rattle.book.proofs.Told.{walk_told, walk_words}
use Rattle.book.proofs.Walks.{few_links}
use Rattle.book.proofs.book.Book.schedule.Goals as goal

pub returns-then-not-is_ordered-clause-call : goal.returns-then-not-is_ordered-clause-call
returns-then-not-is_ordered-clause-call g c =
    let M = g.K.Kind.meaning in
    let s = c.args.self.now.store in
    let rows = rows_of c.args.totals.now c.args.numbers.now c.args.steps.now in
    rw c.into.ensures (answered M s s (REALISE rows) _ (realise_unordered M (state_of M s) rows (sym c.is_ordered.ensures ∙ c.if-not-is_ordered.true)) (unchanged _ _ _))

pub returns-in_err-check_rows-clause-call : goal.returns-in_err-check_rows-clause-call
returns-in_err-check_rows-clause-call g c =
    let M = g.K.Kind.meaning in
    let s = c.args.self.now.store in
    let rows = rows_of c.args.totals.now c.args.numbers.now c.args.steps.now in
    let p = err_from_is_err_and c.from_residual.result c.from_residual.ensures.1 in
    let h = c.in_err-check_rows.ensures in
    rw (p.1, p.2, h.0) (answered M s s (REALISE rows) _ (realise_short M (state_of M s) rows (sym c.is_ordered.ensures ∙ c.if-not-is_ordered.false) h.1) (unchanged _ _ _))

pub returns-in_err-least_offsets : goal.returns-in_err-least_offsets
returns-in_err-least_offsets g c =
    let M = g.K.Kind.meaning in
    let s = c.args.self.now.store in
    let net = c.network.ensures in
    let r = c.from_residual-in_err-least_offsets in
    let p = err_from_is_err_and r.result r.ensures.1 in
    let x = c.in_err-least_offsets.field-0.0 in
    let e = c.in_err-least_offsets.ensures in
    let rows = rows_of c.args.totals.now c.args.numbers.now c.args.steps.now in
    let row = c.args.steps.now in
    let row' = c.least_offsets.new.steps in
    let m = x.steps in
    let v = subst₂ (λ n ls. Scheduled M n (map (link_of M) ls) (offset M c.least_offsets.new.totals) row row' (Err x)) net.n net.links e.schedule in
    let ss = v.1.0 in
    let loop = v.1.1.0 in
    let few = few_links M s c.args.self.now.held in
    let told = walk_told M.quantities (state_of M s).links loop.0 loop.0 row row' m ss few loop.1 v.1.2 in
    let A : Asked M (state_of M s) rows = record { ordered = sym c.is_ordered.ensures ∙ c.if-not-is_ordered.false; enough = c.in_ok-check_rows.ensures } in
    let n : m ≤ s.n = omega (arith, e.short, net.n) in
    let kept : length row' ≡ length row = c.least_offsets.auto.steps in
    rw (p.1, p.2) (record {
      call = answered M s s (REALISE rows) (refused NegativeLoop (steps_of (take m row')))
          (subst (λ ts. Right M (state_of M s) (REALISE rows) (refused NegativeLoop ts)) (sym told) (realise_loop M (state_of M s) rows A v.0 ss v.1.1))
          (unchanged _ _ _);
      rows = record {
        early = λ n. absurd (n.1 refl);
        totals = subst (λ n. drop (2 * n) c.least_offsets.new.totals ≡ drop (2 * n) c.args.totals.now) net.n e.totals;
        numbers = subst (λ n. drop (4 * n) c.least_offsets.new.numbers ≡ drop (4 * n) c.args.numbers.now) net.n e.numbers;
        steps = v.1.2.rest;
        count = n;
        room = omega (arith, n, kept, A.enough.2);
        words = walk_words M.quantities (state_of M s).links loop.0 loop.0 row row' m ss few loop.1 v.1.2;
      };
      reach = tt;
    })

pub returns-clause-call : goal.returns-clause-call
returns-clause-call g c =
    let M = g.K.Kind.meaning in
    let s = c.args.self.now.store in
    let net = c.network.ensures in
    let rows = rows_of c.args.totals.now c.args.numbers.now c.args.steps.now in
    let ts' = c.least_offsets.new.totals in
    let v = subst₂ (λ n ls. Scheduled M n (map (link_of M) ls) (offset M ts') c.args.steps.now c.least_offsets.new.steps (Ok tt)) net.n net.links c.in_ok-least_offsets.ensures.schedule in
    let A : Asked M (state_of M s) rows = record { ordered = sym c.is_ordered.ensures ∙ c.if-not-is_ordered.false; enough = c.in_ok-check_rows.ensures } in
    answered M s s (REALISE rows) (offsets (offset M ts')) (realise_least M (state_of M s) rows A (offset M ts') v.0 v.1) (by_realise rows (offset M ts'))

pub returns-clause-reach : goal.returns-clause-reach
returns-clause-reach g c = λ u o t. g.K.Kind.meaning.wider c.network.result.n 16777216 _ (omega (arith, c.network.ensures.n, c.args.self.now.held.3)) (c.in_ok-least_offsets.ensures.near u (o.0, omega (arith, o.1, c.network.ensures.n)) t)
