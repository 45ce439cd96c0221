use Rattle.std.proofs.Common.{length, sym, ap, arith, rules}
use Rattle.std.proofs.lemmas.List.{length-take-le}
use Rattle.report.proofs.Appends.{still, landed}
use Rattle.report.proofs.Course.{same_sizes, step_less, step_within, goes, cuts, ends}
use Rattle.report.proofs.whole.finish.Goals as goal

pub returns-then-room-l : goal.returns-then-room-l
returns-then-room-l g c kind capacity text h =
    let e = c.in-Some.ensures in
    let s = c.loop-l.invariant.same.name in
    let n = ap length c.new-written.ensures.value in
    let q = cuts g.K.Kind.meaning kind capacity _ text _ _ _ _ _ _ _ _ _ _ (same_sizes _ _ _ _ _ _ c.loop-l.auto.totals c.loop-l.auto.numbers c.loop-l.auto.steps) _ _ (c.loop-l.invariant.going kind capacity text h) e.1 (omega arith) in
    (q.0, q.1, landed _ _ _ _ _ _ q.2 (search rules) c.len.ensures)

pub slice_bounds-text-end : goal.slice_bounds-text-end
slice_bounds-text-end g c = let e = c.in-Some.ensures in step_within g.K.Kind.meaning _ _ _ _ _ _ _ _ _ e.1

pub slice_bounds-text-end-in-Some : goal.slice_bounds-text-end-in-Some
slice_bounds-text-end-in-Some g c = let e = c.in-Some.ensures in sym (length-take-le _ _ (step_within g.K.Kind.meaning _ _ _ _ _ _ _ _ _ e.1))

pub loop-l-smaller : goal.loop-l-smaller
loop-l-smaller g c = let e = c.in-Some.ensures in step_less g.K.Kind.meaning _ _ _ _ _ _ _ _ _ e.1

pub loop-l-preserved : goal.loop-l-preserved
loop-l-preserved g c =
    let e = c.in-Some.ensures in record {
      same = still c.loop-l.invariant.same c.text.ensures.same;
      going = λ kind capacity text h.
          goes g.K.Kind.meaning kind capacity _ text _ _ _ _ _ _ _ _ _ _ _ _ (same_sizes _ _ _ _ _ _ c.loop-l.auto.totals c.loop-l.auto.numbers c.loop-l.auto.steps) _ _ _ _ (c.loop-l.invariant.going kind capacity text h) e.1 c.text.ensures.wrote;
    }

pub returns : goal.returns
returns g c kind capacity text h =
    let e = c.in_default.ensures in
    let s = c.loop-l.invariant.same.name in
    let q = ends g.K.Kind.meaning kind capacity _ text _ _ _ _ _ (c.loop-l.invariant.going kind capacity text h) e.0 in
    (q.0, q.1, landed _ _ _ _ _ _ q.2 (search rules) c.len-2.ensures)
