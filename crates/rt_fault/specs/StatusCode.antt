-- The exit status of a program for each outcome.
use Rattle.std.specs.Prelude.{ℕ}
use Rattle.rt_fault.specs.declared.status.Status.{Status}
use Rattle.rt_fault.specs.declared.status.Status.TheVariants.{Ok, Invalid, Usage, BadInput, ReadFault, WriteFault, TooLong, NoMemory}

abbrev pub code_of : Status → ℕ
code_of Ok = 0
code_of (Invalid line) = 1
code_of Usage = 2
code_of (BadInput bad) = 3
code_of ReadFault = 4
code_of WriteFault = 5
code_of TooLong = 6
code_of NoMemory = 7
