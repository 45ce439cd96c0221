use Rattle.std.proofs.Common.{◌≡◌, ◌++◌, length, drop}
use Rattle.text.specs.Writing.{hex}
use Rattle.text.proofs.Text.of_word.Given as goal

abbrev pub invariant-loop-i : goal.invariant-loop-i
invariant-loop-i l = (length l.digits ≡ 8) × (hex l.i l.left ++ drop l.i l.digits ≡ hex 8 l.w)
