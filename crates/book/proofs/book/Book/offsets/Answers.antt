use Rattle.std.proofs.Common.{map, take, sym, refl, subst, subst₂, inl}
use Rattle.std.proofs.lemmas.Result.{err_from_is_err_and}
use Rattle.calls.specs.State.{OFFSETS, offsets}
use Rattle.calls.specs.Calls.{unchanged, by_offsets}
use Rattle.calls.proofs.Asking.{offsets_torn, offsets_carried}
use Rattle.network.specs.Offsets.{Fits}
use Rattle.search.specs.Records.{link_of}
use Rattle.search.specs.Settled.{offset}
use Rattle.search.specs.Known.{Grounded}
use Rattle.book.specs.Memory.{state_of, rows_of}
use Rattle.book.proofs.Promise.{answered, refuses}
use Rattle.book.proofs.book.Book.offsets.Goals as goal

pub returns-in_err-check_rows-clause-call : goal.returns-in_err-check_rows-clause-call
returns-in_err-check_rows-clause-call g c =
    let p = err_from_is_err_and c.from_residual.result c.from_residual.ensures.1 in
    let h = c.in_err-check_rows.ensures in
    rw (p.1, p.2) (refuses _ _ _ _ (inl (sym h.0, h.1, refl)))

pub returns-in_err-ground-clause-call : goal.returns-in_err-ground-clause-call
returns-in_err-ground-clause-call g c =
    let M = g.K.Kind.meaning in
    let s = c.args.self.now.store in
    let r = c.from_residual-in_err-ground in
    let p = err_from_is_err_and r.result r.ensures.1 in
    let h = c.in_err-ground.ensures.offsets in
    let torn : Fits M.quantities (state_of M s).links → ⊥ = subst (λ ls. Fits M.quantities (map (link_of M) ls) → ⊥) c.network.ensures.links h.1 in
    let rows = rows_of c.args.totals.now c.args.numbers.now c.args.steps.now in
    rw (p.1, p.2, h.0) (answered M s s (OFFSETS rows) _ (offsets_torn M (state_of M s) rows c.in_ok-check_rows.ensures torn) (unchanged _ _ _))

pub returns-clause-call : goal.returns-clause-call
returns-clause-call g c =
    let M = g.K.Kind.meaning in
    let s = c.args.self.now.store in
    let net = c.network.ensures in
    let row = take s.n c.ground.new.totals in
    let v = subst₂ (λ n ls. Grounded M ls n (take n c.ground.new.totals)) net.n net.links c.in_ok-ground.ensures.offsets in
    let rows = rows_of c.args.totals.now c.args.numbers.now c.args.steps.now in
    answered M s s (OFFSETS rows) (offsets (offset M row)) (offsets_carried M (state_of M s) rows c.in_ok-check_rows.ensures (offset M row) v.0 (λ u l. v.1 u (l.0, l.1) l.2)) (by_offsets rows (offset M row))
