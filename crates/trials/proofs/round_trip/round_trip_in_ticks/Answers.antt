use Rattle.std.proofs.Common.{[], ◌∷◌, ap, ◌∙◌, lit≤, Ok}
use Rattle.trials.proofs.Returned.{ticks_contradict}
use Rattle.trials.proofs.round_trip.round_trip_in_ticks.Goals as goal

pub returns : goal.returns
returns c = let r = c.round_trip.ensures in r.taken ∙ ap (λ o. Ok tt ∷ Ok tt ∷ o ∷ []) (ticks_contradict (lit≤ tt) r.out r.came)
