use Rattle.std.proofs.Common.{ap, arith}
use Rattle.std.proofs.lemmas.Bool.{eqb-true, eq-eqb}
use Rattle.kinds.specs.Places.{Place, around}
use Rattle.kinds.proofs.places.PlacesKind.same.Goals as goal

pub returns : goal.returns
returns c =
    record {
      yes = λ _ _ e. ap around (eqb-true _ _ e);
      no = λ a b e. eq-eqb _ _ (omega (arith, ap (λ (p : Place). p.number) e));
    }
