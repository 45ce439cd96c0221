use Rattle.std.proofs.Common.{◌≡◌, ◌*◌, ◌≤◌, map, length, take, drop, Ok, Err, sym, refl, subst, arith}
use Rattle.std.proofs.lemmas.Result.{err_from_is_err_and}
use Rattle.calls.specs.declared.Refusal.TheVariants.{Contradicts}
use Rattle.calls.specs.State.{LINK, done, refused}
use Rattle.calls.specs.Calls.{Right, Next, unchanged, by_link}
use Rattle.calls.proofs.Linking.{judged, fitting}
use Rattle.network.specs.Words.{steps_of}
use Rattle.search.specs.Records.{link_of}
use Rattle.search.specs.Verdict.{Judged}
use Rattle.book.specs.Memory.{state_of, rows_of}
use Rattle.book.proofs.Promise.{answered, refuses}
use Rattle.book.proofs.Told.{told, words_told}
use Rattle.book.proofs.Walks.{few_links}
use Rattle.book.proofs.book.Book.enter.Goals as goal

pub returns-in_err-check_link-clause-call : goal.returns-in_err-check_link-clause-call
returns-in_err-check_link-clause-call g c =
    let p = err_from_is_err_and c.from_residual.result c.from_residual.ensures.1 in
    rw (p.1, p.2) (refuses _ _ _ _ c.in_err-check_link.ensures)

pub returns-in_err-link_verdict : goal.returns-in_err-link_verdict
returns-in_err-link_verdict g c =
    let M = g.K.Kind.meaning in
    let s = c.args.self.now.store in
    let l = link_of M c.args.new in
    let net = c.network.ensures in
    let r = c.from_residual-in_err-link_verdict in
    let p = err_from_is_err_and r.result r.ensures.1 in
    let x = c.in_err-link_verdict.field-0.0 in
    let row = c.args.steps.now in
    let row' = c.link_verdict.new.steps in
    let v = subst (λ ls. Judged M.quantities (map (link_of M) ls) l row row' (Err x)) net.links c.in_err-link_verdict.ensures.verdict in
    let m = x.steps in
    let ready = c.in_ok-check_link.ensures.0 in
    let rows = rows_of c.args.totals.now c.args.numbers.now row in
    let few = few_links M s c.args.self.now.held in
    let e = told M.quantities (state_of M s).links l row row' m v.1.0 few v.1.1 v.1.2 in
    let n : m ≤ s.n = omega (arith, c.in_err-link_verdict.ensures.short, net.n) in
    let kept : length row' ≡ length row = c.link_verdict.auto.steps in
    rw (p.1, p.2) (record {
      call = answered M s s (LINK l rows) (refused Contradicts (steps_of (take m row')))
          (subst (λ ts. Right M (state_of M s) (LINK l rows) (refused Contradicts ts)) (sym e) (judged M (state_of M s) l rows ready v.0 v.1.0 v.1.1))
          (unchanged _ _ _);
      kept = refl;
      records = refl;
      rows = record {
        early = λ n. absurd (n.0 refl);
        totals = subst (λ n. drop (2 * n) c.link_verdict.new.totals ≡ drop (2 * n) c.args.totals.now) net.n c.link_verdict.ensures.totals;
        numbers = subst (λ n. drop (4 * n) c.link_verdict.new.numbers ≡ drop (4 * n) c.args.numbers.now) net.n c.link_verdict.ensures.numbers;
        steps = v.1.2.rest;
        count = n;
        room = omega (arith, n, kept, ready.enough.2);
        words = words_told M.quantities (state_of M s).links l row row' m v.1.0 few v.1.1 v.1.2;
      };
    })

pub append-requires-clause-fits : goal.append-requires-clause-fits
append-requires-clause-fits g c =
    let M = g.K.Kind.meaning in
    (subst (λ ls. Judged M.quantities (map (link_of M) ls) (link_of M c.args.new) c.args.steps.now c.link_verdict.new.steps (Ok tt)) c.network.ensures.links c.in_ok-link_verdict.ensures.verdict).0

pub returns-clause-call : goal.returns-clause-call
returns-clause-call g c =
    let M = g.K.Kind.meaning in
    let s = c.args.self.now.store in
    let l = link_of M c.args.new in
    let v = subst (λ ls. Judged M.quantities (map (link_of M) ls) l c.args.steps.now c.link_verdict.new.steps (Ok tt)) c.network.ensures.links c.in_ok-link_verdict.ensures.verdict in
    let rows = rows_of c.args.totals.now c.args.numbers.now c.args.steps.now in
    answered M s c.append.new.self.store (LINK l rows) done (fitting M (state_of M s) l rows c.in_ok-check_link.ensures.0 v.0)
    (subst (Next M (state_of M s) (LINK l rows) done) (sym c.append.ensures.state) (by_link l rows))
