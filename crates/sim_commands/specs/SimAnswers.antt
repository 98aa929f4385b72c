-- The answers of the command `sim`, each with its cause.
use Rattle.std.specs.Prelude.{◌≡◌, ◌≢◌, ℕ, ◌⊎◌, List}
use Rattle.rt_base.specs.declared.TheConstants.{MOST_SET_BYTES}
use Rattle.rt_task.specs.declared.bad_set.BadSet.{BadSet}
use Rattle.rt_fault.specs.Reading.{TakesAtMost, TakesOneMoreThan}
use Rattle.rt_fault.specs.declared.status.Status.{Status}
use Rattle.rt_fault.specs.declared.status.Status.TheVariants.{Ok, Invalid, BadInput, WriteFault, TooLong, NoMemory}
use Rattle.trace_tools.specs.Tools.{Tool}
use Rattle.set_input.specs.Ends.{Reading, Writing, IsFaultless}
use Rattle.sim_commands.specs.Sim.{WasPlayed, WasCut}
use Rattle.set_input.specs.Inputs.{WasRefused, CanPlay}
use Rattle.set_input.specs.Answers.{IsWell}

pub record SimAnswers (tools : List Tool) (source : Reading) (sink : Writing) (answer : Status) : Type 0 where
  -- all input was read, and the sink got the trace of its set and the tools' count lines
  pub ok : answer ≡ Ok → WasPlayed tools source sink
  -- all input was read, and has this refusal
  pub bad_input : (bad : BadSet) → answer ≡ BadInput bad → WasRefused source bad
  -- one byte more than the limit was taken
  pub too_long : answer ≡ TooLong → TakesOneMoreThan MOST_SET_BYTES source.old.left source.new.left
  -- on any other answer at most the limit
  pub not_too_long : answer ≢ TooLong → TakesAtMost MOST_SET_BYTES source.old.left source.new.left
  -- a set was read, and a first part of its trace written
  pub cut_by_fault : answer ≡ WriteFault → WasCut tools source sink
  -- nothing was written, or the same
  pub no_memory : answer ≡ NoMemory → (sink.new ≡ sink.old) ⊎ WasCut tools source sink
  -- a line of a trace is never wrong
  pub not_invalid : (line : ℕ) → answer ≢ Invalid line
  -- a valid set, from a source and to a sink without fault, is played to its end, unless memory runs out
  pub complete : CanPlay source.old.left → IsFaultless source sink → IsWell answer
