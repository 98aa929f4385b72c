-- How views end.
use Rattle.std.specs.Prelude.{ℕ, ⊤}
use Rattle.rt_fault.specs.StatusCode.{code_of}
use Rattle.rt_fault.specs.declared.status.Status.TheVariants.{ReadFault, WriteFault}
use Rattle.set_input.specs.Answers as answers
use Rattle.set_input.specs.Ends.{Reading, TellsFaultsBy, Writing}
use Rattle.view_command.specs.declared.ending.ViewEnd.{ViewEnd}
use Rattle.view_command.specs.declared.ending.ViewEnd.TheVariants.{Ended, NoSuchEntry}

-- the exit status of the program
abbrev pub exit_code_of : ViewEnd → ℕ
exit_code_of (Ended status) = code_of status
exit_code_of NoSuchEntry = 8

-- the trace was viewed, or has no such entry, unless memory ran out
abbrev pub IsWell : ViewEnd → Type 0
IsWell (Ended status) = answers.IsWell status
IsWell NoSuchEntry = ⊤

-- a fault is answered exactly where a read or a write of the call failed
abbrev pub TellsFaults : Reading → Writing → ViewEnd → Type 0
TellsFaults source sink end = TellsFaultsBy (Ended ReadFault) (Ended WriteFault) source sink end
