use Rattle.std.proofs.Common.{◌≡◌, ◌+◌, ◌-◌, map, get_or, ◌∙◌, subst, arith}
use Rattle.search.specs.Records.{link_of}
use Rattle.schedule.specs.Rounds.{After}
use Rattle.schedule.specs.Rows.{state_of, Near}
use Rattle.schedule.proofs.settle.settle.Goals as goal

pub returns-in_err-raised : goal.returns-in_err-raised
returns-in_err-raised g c =
    let M = g.K.Kind.meaning in
    let near : Near M c.args.net.now.n c.args.net.now.n c.round.new.row = λ v o t. M.wider (c.loop-k.k + 1) c.args.net.now.n (get_or c.round.new.row (v - 1) t) (omega arith) (c.round.ensures.near v o t) in
    rw c.from_residual.ensures (record { size = c.round.ensures.size; near = near; least = (c.in_err-raised.ensures.raised, c.round.ensures.after.least); raised = tt })

pub returns : goal.returns
returns g c =
    let M = g.K.Kind.meaning in
    let e : c.loop-k.k ≡ c.args.net.now.n = omega arith in
    let h = c.loop-k.invariant.3 in
    record {
      size = c.loop-k.invariant.0;
      near = subst (λ k. Near M c.args.net.now.n k c.loop-k.row) e c.loop-k.invariant.1;
      least = tt;
      raised = (h.0, h.1 ∙ e, subst (λ k. After M (map (link_of M) c.args.net.now.links.now) c.args.net.now.n k (state_of M c.loop-k.row c.loop-k.rows.stamps.now c.loop-k.rows.preds.now)) e c.loop-k.invariant.2);
    }
