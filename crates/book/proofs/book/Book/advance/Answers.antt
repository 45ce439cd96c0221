use Rattle.std.proofs.Common.{◌≡◌, ◌-◌, ◌≤◌, length, get_or, sym, refl, ap, ◌∙◌, inr, arith}
use Rattle.network.specs.Graph.{start, place}
use Rattle.book.specs.Memory.{state_of, records}
use Rattle.calls.specs.Standing.{plan}
use Rattle.book.specs.Walking.{signed}
use Rattle.book.proofs.Walks.{stands_upto, link_is, near_is, far_is, walk_on}
use Rattle.book.proofs.book.Book.advance.Goals as goal
use Rattle.book.proofs.book.Book.advance.Goals.{else-done-gt0-via-then-done-gt0+else-leg-trip, else-done-gt0-via-else-done-gt0}

pub returns-then-leg-trip : goal.returns-then-leg-trip
returns-then-leg-trip g c = λ ws len lt k.
    let M = g.K.Kind.meaning in
    let s = c.args.self.now.store in
    let st = c.in-Some.step in
    let n = c.in-Some.ensures in
    let u = stands_upto M s c.args.self.now.held.0 (place st) n.1 in
    let e = link_is M s (place st) u c.get.result (λ d. c.get.ensures d ∙ ap (λ z. get_or (records s) (z - 1) d) c.place.ensures) in
    inr (refl, omega arith, (st, (n.0, u), λ h. c.if-leg-trip.true (c.pass-leg.ensures.start ∙ near_is M (state_of M s) st c.get.result e ∙ h)))

pub returns : goal.returns
returns g c = λ ws len lt k.
    let M = g.K.Kind.meaning in
    let s = c.args.self.now.store in
    let st = c.in-Some.step in
    let n = c.in-Some.ensures in
    let u = stands_upto M s c.args.self.now.held.0 (place st) n.1 in
    let e = link_is M s (place st) u c.get.result (λ d. c.get.ensures d ∙ ap (λ z. get_or (records s) (z - 1) d) c.place.ensures) in
    let l = c.pass-leg.ensures in
    let m = c.sum.ensures (length ws) 1 k.low l.low (omega arith) in
    let w = c.sum-2.ensures (length ws) 1 k.high l.high (omega arith) in
    let plus = M.quantities.plus in
    let from : 1 ≤ length ws → start (plan M.quantities (state_of M s)) st ≡ c.args.trip.at = λ h.
    elim c.else-done-gt0.branch [
      | else-done-gt0-via-then-done-gt0+else-leg-trip v ↦ sym (near_is M (state_of M s) st c.get.result e) ∙ sym l.start ∙ v.if-leg-trip.false
      | else-done-gt0-via-else-done-gt0 v ↦ absurd (omega (arith, v.if-done-gt0.false))
    ] in
    walk_on M (state_of M s) ws c.args.word st c.args.trip _ k (n.0, u) from
    (l.end ∙ far_is M (state_of M s) st c.get.result e)
    (m.0 ∙ ap (plus (M.total c.args.trip.measured)) (l.measured ∙ ap (λ z. signed M.quantities st z.measured) (sym e)))
    (w.0 ∙ ap (plus (M.total c.args.trip.wanted)) (l.wanted ∙ ap (λ z. signed M.quantities st z.wanted) (sym e)))
    m.1 w.1
