-- The number of each refusal, as reports print it.
use Rattle.std.specs.Prelude.{ℕ}
use Rattle.calls.specs.declared.Refusal.{Refusal}
use Rattle.calls.specs.declared.Refusal.TheVariants.{Issued, UnknownSwitch, SameSwitch, AlreadyStands, NotStanding, Full, BadSize, SizeBelowLink, ShortRow, Contradicts, Torn, NotConnected, Unordered, NegativeLoop, NoSuchStep, BrokenWalk, NotIssued, WalkTooLong}

abbrev pub number_of : Refusal → ℕ
number_of Issued = 2
number_of UnknownSwitch = 3
number_of SameSwitch = 4
number_of AlreadyStands = 5
number_of NotStanding = 6
number_of Full = 7
number_of BadSize = 8
number_of SizeBelowLink = 9
number_of ShortRow = 10
number_of Contradicts = 11
number_of Torn = 12
number_of NotConnected = 13
number_of Unordered = 14
number_of NegativeLoop = 15
number_of NoSuchStep = 16
number_of BrokenWalk = 17
number_of NotIssued = 18
number_of WalkTooLong = 19
