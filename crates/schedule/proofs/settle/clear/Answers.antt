use Rattle.std.proofs.Common.{ℕ, ◌≤◌, ◌++◌, length, drop, length-append, length-take, ◌≡◌, ◌-◌, get_or, sym, ap, ◌∙◌, subst, arith}
use Rattle.std.proofs.lemmas.List.{get_or_append_left}
use Rattle.search.specs.Records.{On}
use Rattle.schedule.proofs.Reading.{mean}
use Rattle.schedule.proofs.settle.clear.Goals as goal

pub returns : goal.returns
returns g c =
    let rest = drop c.args.n c.args.row.now in
    let long : c.args.n ≤ length c.loop-total.total-items = omega (arith, c.loop-total.auto.total-items, length-take c.args.n c.args.row.now) in
    let all : (v : ℕ) (t : g.row.K-Total.Denot) → On c.args.n v → (g.K.Kind.meaning.total (get_or (c.loop-total.total-items ++ rest) (v - 1) t) ≡ g.K.Kind.meaning.quantities.zero) × g.K.Kind.meaning.within 0 (get_or (c.loop-total.total-items ++ rest) (v - 1) t) =
    λ v t o.
    let e = get_or_append_left c.loop-total.total-items rest t (v - 1) (omega (arith, o.0, o.1)) in
    let h = c.loop-total.invariant (v - 1) t (omega (arith, o.0, o.1)) in
    (ap g.K.Kind.meaning.total e ∙ h.0, subst (g.K.Kind.meaning.within 0) (sym e) h.1)
    in
    record {
      means = λ v o. mean g.K.Kind.meaning (c.loop-total.total-items ++ rest) v g.K.Kind.meaning.quantities.zero (omega (arith, o.0, o.1, length-append c.loop-total.total-items rest)) (λ t. (all v t o).0);
      near = λ v o t. (all v t o).1;
    }
