use Rattle.std.proofs.Common.{ℕ, ◌+◌, ◌-◌, ◌<◌, List, length, set, sym, subst, arith}
use Rattle.search.specs.Joined.{label}
use Rattle.search.specs.Grouped.{Rising}
use Rattle.search.proofs.Groups.{wider, united, united_raised, united_leader}
use Rattle.search.proofs.forest.unite.Goals as goal
use Rattle.search.proofs.forest.unite.Goals.{then-ranks-a, else-ranks-a}

pub returns : goal.returns
returns c =
    record {
      rising = λ k r.
          let P : List ℕ → Type 0 = λ ranks. Rising (k + 1) (length c.args.labels.now) (label (set c.args.labels.now (c.args.b - 1) c.args.a)) (label ranks) in
          elim c.if-ranks-a.branch [
            | then-ranks-a w ↦ subst P (sym w.ranks-is) (united_raised c.args.labels.now c.args.ranks.now c.args.a c.args.b c.requires.inside c.requires.top c.requires.apart k c.requires.size w.if-ranks-a.true r)
            | else-ranks-a w ↦
                let h : label c.args.ranks.now c.args.b < label c.args.ranks.now c.args.a = omega (arith, c.requires.higher, w.if-ranks-a.false) in
                subst P (sym w.ranks-is) (wider k (k + 1) _ _ _ (omega arith) (united c.args.labels.now c.args.ranks.now c.args.a c.args.b c.requires.inside c.requires.top c.requires.apart k h r))
          ];
      leads = united_leader c.args.labels.now c.args.ranks.now c.args.a c.args.b c.requires.inside c.requires.top c.requires.apart;
    }
