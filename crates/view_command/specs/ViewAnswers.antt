-- The answers of `rtview`, each with its cause.
use Rattle.std.specs.Prelude.{◌≡◌, ◌≢◌, ℕ, List}
use Rattle.rt_base.specs.declared.TheConstants.{MOST_TRACE_BYTES}
use Rattle.rt_task.specs.declared.bad_set.BadSet.{BadSet}
use Rattle.rt_fault.specs.Reading.{TakesAtMost, TakesOneMoreThan}
use Rattle.rt_fault.specs.declared.status.Status.TheVariants.{Ok, Invalid, BadInput, WriteFault, TooLong, NoMemory}
use Rattle.trace_tools.specs.Tools.{Tool}
use Rattle.set_input.specs.Ends.{Reading, Writing, IsFaultless}
use Rattle.sim_commands.specs.Check.{WasNoTrace, CanCheck}
use Rattle.view_command.specs.Ends.{IsWell}
use Rattle.view_command.specs.View.{ViewWasCut, WasViewed, WasWithout, WasWrong}
use Rattle.view_command.specs.declared.ending.ViewEnd.{ViewEnd}
use Rattle.view_command.specs.declared.ending.ViewEnd.TheVariants.{Ended, NoSuchEntry}
use Rattle.view_command.specs.declared.views.View.{View}

pub record ViewAnswers (tools : List Tool) (view : View) (source : Reading) (sink : Writing) (answer : ViewEnd) : Type 0 where
  -- all input was read and is a valid trace, and the sink got its view
  pub ok : answer ≡ Ended Ok → WasViewed tools view source sink
  -- all input was read and is a valid trace, which has no such group or entry
  pub no_such_entry : answer ≡ NoSuchEntry → WasWithout tools view source
  -- all input was read, and this line is the first that is wrong
  pub invalid : (line : ℕ) → answer ≡ Ended (Invalid line) → WasWrong tools source line
  -- all input was read, and has this refusal
  pub bad_input : (bad : BadSet) → answer ≡ Ended (BadInput bad) → WasNoTrace source bad
  -- one byte more than the limit was taken
  pub too_long : answer ≡ Ended TooLong → TakesOneMoreThan MOST_TRACE_BYTES source.old.left source.new.left
  -- on any other answer at most the limit
  pub not_too_long : answer ≢ Ended TooLong → TakesAtMost MOST_TRACE_BYTES source.old.left source.new.left
  -- a valid trace was read, and a first part of its view written
  pub cut_by_fault : answer ≡ Ended WriteFault → ViewWasCut tools view source sink
  -- nothing was written
  pub no_memory : answer ≡ Ended NoMemory → sink.new ≡ sink.old
  -- a valid trace, from a source and to a sink without fault, is viewed or has no such entry, unless memory runs out
  pub complete : CanCheck tools source.old.left → IsFaultless source sink → IsWell answer
