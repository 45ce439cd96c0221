use Rattle.std.proofs.Common.{Ok, Err, Result, MatchResult, arith}
use Rattle.search.specs.declared.errors.Torn.{Torn}
use Rattle.search.proofs.Differences.{all_grounded}
use Rattle.search.proofs.known.grounded.Goals as goal

-- what is said at Ok, said otherwise
at_ok : (A B C : Type 0) (r : Result (Unit {0}) Torn) → (A → B) → MatchResult r (λ _. A) (λ _. C) → MatchResult r (λ _. B) (λ _. C)
at_ok A B C (Ok _) f a = f a
at_ok A B C (Err _) f c = c

pub returns : goal.returns
returns g c =
    at_ok _ _ _ c.carry.result
    (λ h. all_grounded g.K.Kind.meaning c.args.net.now.links.now c.args.net.now.n c.root_lowest.new.up c.carry.new.row (omega (arith, c.carry.auto.row, c.requires.offsets))
    c.carry.ensures.placed c.join.new.labels c.join.ensures.labelled c.root_lowest.ensures.roots h c.carry.ensures.near)
    c.carry.ensures.carries
