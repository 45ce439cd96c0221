use Rattle.std.proofs.Common.{[], ◌∷◌, ap, ◌∙◌, lit≤, Ok}
use Rattle.trials.proofs.Returned.{places_enter}
use Rattle.trials.proofs.round_trip.round_trip_in_places.Goals as goal

pub returns : goal.returns
returns c = let r = c.round_trip.ensures in r.taken ∙ ap (λ o. Ok tt ∷ Ok tt ∷ o ∷ []) (places_enter (lit≤ tt) r.out r.came)
