use Rattle.std.proofs.Common.{◌≡◌, ℕ, ◌+◌, ◌-◌, ◌≤◌, length, take, sym, ap, ◌∙◌, subst, arith, rules}
use borrow.Rule.Slice.PartMut.{put_mid, put_same, mid_len, same_len_mid}
use Rattle.text.specs.Writing.{Wrote}
use Rattle.report.specs.Reading.{ahead}
use Rattle.report.proofs.Parts.{in_part}
use Rattle.report.proofs.Course.{same_sizes, step_less, step_within, step_wrote, goes}
use Rattle.report.proofs.session.Session.fill.Goals as goal

pub returns-in_default : goal.returns-in_default
returns-in_default g c =
    let e = c.in_default.ensures in
    let at = c.loop-report.bytes in
    let b = c.loop-report.report in
    let back : put_mid at (length b - at) b c.line.new.row ≡ b = ap (put_mid at (length b - at) b) e.1 ∙ put_same at (length b - at) b in
    record {
      lines = λ kind capacity text h f x.
          let q = c.loop-report.invariant.1 kind capacity text h f x in
          (q.bytes, rw (e.3, e.4) q.onward, subst (λ z. Wrote c.args.report.now 0 q.bytes z at) (sym back) q.wrote);
      room = omega (arith, c.loop-report.invariant.0, ap length back);
      over = λ _. ap ahead e.3 ∙ e.0;
      more = λ q. let z : ◌≡◌ {A = ℕ} 0 1 = cc in absurd (omega arith);
    }

pub overflow_add-bytes : goal.overflow_add-bytes
overflow_add-bytes g c =
    let e = c.in-Some.ensures in
    let l = step_within g.K.Kind.meaning _ _ _ _ _ _ _ _ _ e.1 in
    let k = c.line.auto.row in
    let at = c.loop-report.bytes in
    let b = c.loop-report.report in
    let m = mid_len at (length b) b (omega arith) in
    let h : at + c.in-Some.l.bytes ≤ length b = omega (arith, c.loop-report.invariant.0) in
    search rules

pub loop-report-smaller : goal.loop-report-smaller
loop-report-smaller g c = let e = c.in-Some.ensures in step_less g.K.Kind.meaning _ _ _ _ _ _ _ _ _ e.1

pub loop-report-preserved : goal.loop-report-preserved
loop-report-preserved g c =
    let e = c.in-Some.ensures in
    let l = step_within g.K.Kind.meaning _ _ _ _ _ _ _ _ _ e.1 in
    let k = c.line.auto.row in
    let at = c.loop-report.bytes in
    let b = c.loop-report.report in
    let row' = c.line.new.row in
    let m = mid_len at (length b) b (omega arith) in
    let n = same_len_mid at (length b - at) b row' k in (
      omega (arith, c.loop-report.invariant.0),
      λ kind capacity text h f x.
          goes g.K.Kind.meaning kind capacity _ text h f _ _ _ _ _ _ _ _ _ _ (same_sizes _ _ _ _ _ _ c.loop-report.auto.totals c.loop-report.auto.numbers c.loop-report.auto.steps) _ _ _ _
          (c.loop-report.invariant.1 kind capacity text h f x) e.1 (in_part b row' (take c.in-Some.l.bytes row') at c.in-Some.l.bytes c.loop-report.invariant.0 (step_wrote g.K.Kind.meaning _ _ _ _ _ _ _ _ _ e.1)),
    )
