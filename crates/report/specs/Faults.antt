-- The fault that a line tells: its layer, its number and its place.
use Rattle.std.specs.Prelude.{ℕ, ◌+◌, length, Some, None, Ok, Err, Option, Result}
use Rattle.calls.specs.State.{done, total, totals, offsets, refused}
use Rattle.calls.specs.Refusals.{number_of}
use Rattle.report.specs.Entries.{file_number, file_place}
use Rattle.report.specs.Doing.{Outcome, unmade, answered}
use Rattle.report.specs.declared.file.FileFault.{FileFault}
use Rattle.report.specs.declared.fault.LatencyFault.TheVariants.{Measured, Wanted}
use Rattle.report.specs.declared.fault.CallFault.{CallFault}
use Rattle.report.specs.declared.fault.CallFault.TheVariants.{Latency, Book}
use Rattle.report.specs.declared.fault.Good.{Good}
use Rattle.report.specs.declared.fault.Fault.{Fault}
use Rattle.report.specs.declared.fault.Fault.TheVariants.{File, Call}
use Rattle.report.specs.declared.fault.Placed.{Placed}

abbrev pub fault_number : Fault → ℕ
fault_number (File f) = file_number f
fault_number (Call (Latency f)) = 1
fault_number (Call (Book x)) = number_of x.refusal

-- the word at fault, of a call that begins with word p
abbrev pub call_place : ℕ → CallFault → ℕ
call_place p (Latency Measured) = p + 1
call_place p (Latency Wanted) = p + 2
call_place p (Book x) = p

-- A latency's fault is placed at its word, and a refusal at the call's first word, p.
abbrev pub fault_of : {Q : Type 0} → ℕ → Outcome Q → Option Placed
fault_of p (unmade Measured) = Some (record { fault = Call (Latency Measured); place = p + 1 })
fault_of p (unmade Wanted) = Some (record { fault = Call (Latency Wanted); place = p + 2 })
fault_of p (answered done) = None
fault_of p (answered (total q)) = None
fault_of p (answered (totals m w)) = None
fault_of p (answered (offsets c)) = None
fault_of p (answered (refused e ss)) = Some (record { fault = Call (Book (record { refusal = e; shown = length ss })); place = p })

abbrev pub file_fault : FileFault → Option Placed
file_fault f = Some (record { fault = File f; place = file_place f })

-- the same of the code's reply
abbrev pub reply_fault : {T : Type 0} → ℕ → Result (Good T) CallFault → Option Placed
reply_fault p (Ok v) = None
reply_fault p (Err (Latency Measured)) = Some (record { fault = Call (Latency Measured); place = p + 1 })
reply_fault p (Err (Latency Wanted)) = Some (record { fault = Call (Latency Wanted); place = p + 2 })
reply_fault p (Err (Book x)) = Some (record { fault = Call (Book x); place = p })
