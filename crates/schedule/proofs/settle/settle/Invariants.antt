use Rattle.std.proofs.Common.{◌≡◌, map}
use Rattle.search.specs.Records.{link_of, On}
use Rattle.schedule.specs.Rounds.{After}
use Rattle.schedule.specs.Rows.{entry, state_of, Near}
use Rattle.schedule.proofs.settle.settle.Given as goal

abbrev pub invariant-loop-k : goal.invariant-loop-k
invariant-loop-k g l =
    (l.rows.n ≡ l.net.n)
    × Near g.K.Kind.meaning l.net.n l.k l.row
    × After g.K.Kind.meaning (map (link_of g.K.Kind.meaning) l.net.links.now) l.net.n l.k (state_of g.K.Kind.meaning l.row l.rows.stamps.now l.rows.preds.now)
    × (On l.net.n l.raised × (entry l.rows.stamps.now l.raised ≡ l.k))
