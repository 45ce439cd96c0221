-- Step words.
use Rattle.std.specs.Prelude.{ℕ, ◌+◌, ◌-◌, cond, List, [], ◌∷◌, ◌++◌, Some, None, Option, Result, MatchResult, ◌≡◌, nat_lt}
use Rattle.network.specs.declared.Step.{Step}
use Rattle.network.specs.declared.Step.TheVariants.{Forward, Backward}
use Rattle.network.specs.declared.NotAStep.{NotAStep}

-- A step word has A (hexadecimal) in bits 31 to 28 for a forward step or B for a backward one, and the link's position in bits 27 to 0.
abbrev pub word : Step → ℕ
word (Forward p) = 0xA000_0000 + p
word (Backward p) = 0xB000_0000 + p

-- the step that a word stands for; none below the forward steps
abbrev pub decode : ℕ → Option Step
decode w = cond (nat_lt w 0xA000_0000) None (cond (nat_lt w 0xB000_0000) (Some (Forward (w - 0xA000_0000))) (Some (Backward (w - 0xB000_0000))))

-- the result is the step that the word stands for, or an error where it stands for none
abbrev pub Decoded : ℕ → Result Step NotAStep → Type 0
Decoded w r = MatchResult r (λ s. decode w ≡ Some s) (λ _. decode w ≡ None)

abbrev pub one : Option Step → List Step
one None = []
one (Some s) = s ∷ []

-- the steps that words stand for
abbrev pub steps_of : List ℕ → List Step
steps_of [] = []
steps_of (w ∷ ws) = one (decode w) ++ steps_of ws
