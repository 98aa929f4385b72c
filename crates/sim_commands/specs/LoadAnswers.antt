-- The answers of the command `load`, each with its cause.
use Rattle.std.specs.Prelude.{◌≡◌, ◌≢◌, ℕ, List, ◌⊎◌}
use Rattle.rt_task.specs.declared.bad_set.BadSet.{BadSet}
use Rattle.rt_fault.specs.Faults.{HasRisen}
use Rattle.rt_fault.specs.declared.status.Status.{Status}
use Rattle.rt_fault.specs.declared.status.Status.TheVariants.{Ok, Invalid, BadInput, ReadFault, WriteFault, TooLong, NoMemory}
use Rattle.trace_tools.specs.Tools.{Tool}
use Rattle.set_input.specs.Ends.{Writing}
use Rattle.set_input.specs.Answers.{IsWell}
use Rattle.sim_commands.specs.Load.{LoadWasCut, WasLoaded}

pub record LoadAnswers (tools : List Tool) (n : ℕ) (sink : Writing) (answer : Status) : Type 0 where
  -- the sink got the text of the load
  pub ok : answer ≡ Ok → WasLoaded tools n sink
  -- a first part of it was written
  pub cut_by_fault : answer ≡ WriteFault → LoadWasCut tools n sink
  -- nothing was written, or the same
  pub no_memory : answer ≡ NoMemory → (sink.new ≡ sink.old) ⊎ LoadWasCut tools n sink
  -- nothing is read, so nothing is refused or wrong
  pub not_refused : (bad : BadSet) → answer ≢ BadInput bad
  pub not_invalid : (line : ℕ) → answer ≢ Invalid line
  pub not_read_fault : answer ≢ ReadFault
  pub not_too_long : answer ≢ TooLong
  -- to a sink without fault the load is written to its end, unless memory runs out
  pub complete : ¬ (HasRisen sink.old.faults sink.new.faults) → IsWell answer
