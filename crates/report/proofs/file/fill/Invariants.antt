use Rattle.std.proofs.Common.{◌≡◌, take}
use Rattle.report.specs.Words.{words_of}
use Rattle.report.proofs.file.fill.Given as goal

abbrev pub invariant-loop-n : goal.invariant-loop-n
invariant-loop-n l = take l.n l.row ≡ take l.n (words_of l.bytes)
