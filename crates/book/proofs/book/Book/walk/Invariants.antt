use Rattle.std.proofs.Common.{take}
use Rattle.book.specs.Memory.{state_of}
use Rattle.book.specs.Walking.{Walked}
use Rattle.book.proofs.book.Book.walk.Given as goal

abbrev pub invariant-loop-done : goal.invariant-loop-done
invariant-loop-done g l = Walked g.K.Kind.meaning (state_of g.K.Kind.meaning l.self.store) (take l.done l.words) l.trip
