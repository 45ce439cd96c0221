-- The forest in a row of numbers: at each switch the word of the step up to its parent, or a number that is no step word.
use Rattle.std.specs.Prelude.{ℕ, zero, suc, List, None, Option, slice_index}
use Rattle.network.specs.declared.Step.{Step}
use Rattle.network.specs.Words.{decode}

-- the step up from each switch: that of switch 1 stands at place 0
abbrev pub parents : List ℕ → ℕ → Option Step
parents row zero = None
parents row (suc v) = decode (slice_index row v)
