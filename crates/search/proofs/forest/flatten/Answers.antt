use Rattle.std.proofs.Common.{◌≡◌, ◌+◌, ◌-◌, ◌<◌, ◌≢◌, length, ap, ◌∙◌, arith, get_or-set_other, get_or-set_same, below_more}
use Rattle.search.proofs.Groups.{flatter, flatter_leader, flat_here}
use Rattle.search.proofs.forest.flatten.Goals as goal

pub loop-i-preserved : goal.loop-i-preserved
loop-i-preserved c =
    let h : c.loop-i.i < length c.args.labels.now = omega arith in (
      flatter (length c.args.labels.now) c.loop-i.labels c.args.ranks.now c.loop-i.i c.root.result c.loop-i.auto.labels h c.root.ensures 8192 c.loop-i.invariant.0,
      λ f F. let G = c.loop-i.invariant.1 f F in (
        flatter_leader (length c.args.labels.now) c.loop-i.labels c.args.ranks.now c.loop-i.i c.root.result c.loop-i.auto.labels h c.root.ensures f G.0,
        below_more _ _
            (λ k l. let ne : k ≢ c.loop-i.i = omega arith in rw get_or-set_other (G.1 k l))
            (get_or-set_same c.loop-i.labels c.loop-i.i c.root.result 0 (omega arith) ∙ flat_here (length c.args.labels.now) c.loop-i.labels c.args.ranks.now c.loop-i.i c.root.result c.loop-i.auto.labels h c.root.ensures f G.0),
      ),
    )

pub returns : goal.returns
returns c = record { inside = c.loop-i.invariant.0.inside; leads = λ f F v o. let q : v - 1 + 1 ≡ v = omega (arith, o.0) in (c.loop-i.invariant.1 f F).1 (v - 1) (omega (arith, o.0, o.1)) ∙ ap f q }
