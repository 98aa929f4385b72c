-- The answers of the command `check`, each with its cause.
use Rattle.std.specs.Prelude.{◌≡◌, ◌≢◌, ℕ, List}
use Rattle.rt_base.specs.declared.TheConstants.{MOST_TRACE_BYTES}
use Rattle.rt_task.specs.declared.bad_set.BadSet.{BadSet}
use Rattle.rt_fault.specs.Reading.{TakesAtMost, TakesOneMoreThan}
use Rattle.rt_fault.specs.declared.status.Status.{Status}
use Rattle.rt_fault.specs.declared.status.Status.TheVariants.{Ok, Invalid, BadInput, WriteFault, TooLong, NoMemory}
use Rattle.trace_tools.specs.Tools.{Tool}
use Rattle.trace_check.specs.declared.verdict.Verdict.TheVariants as verdicts
use Rattle.set_input.specs.Ends.{Reading, Writing, IsFaultless}
use Rattle.set_input.specs.Answers.{IsWell}
use Rattle.sim_commands.specs.Check.{WasChecked, VerdictWasCut, WasNoTrace, CanCheck}

pub record CheckAnswers (tools : List Tool) (source : Reading) (sink : Writing) (answer : Status) : Type 0 where
  -- all input was read and is a valid trace, and the sink got the line that says so
  pub ok : answer ≡ Ok → (entries : ℕ) × WasChecked tools source sink (verdicts.Valid entries)
  -- all input was read, this line is the first that is wrong, and the sink got the line that says so
  pub invalid : (line : ℕ) → answer ≡ Invalid line → WasChecked tools source sink (verdicts.Invalid line)
  -- all input was read, and has this refusal
  pub bad_input : (bad : BadSet) → answer ≡ BadInput bad → WasNoTrace source bad
  -- one byte more than the limit was taken
  pub too_long : answer ≡ TooLong → TakesOneMoreThan MOST_TRACE_BYTES source.old.left source.new.left
  -- on any other answer at most the limit
  pub not_too_long : answer ≢ TooLong → TakesAtMost MOST_TRACE_BYTES source.old.left source.new.left
  -- a trace was read, and a first part of the line written
  pub cut_by_fault : answer ≡ WriteFault → VerdictWasCut tools source sink
  -- nothing was written
  pub no_memory : answer ≡ NoMemory → sink.new ≡ sink.old
  -- a valid trace, from a source and to a sink without fault, is found valid, unless memory runs out
  pub complete : CanCheck tools source.old.left → IsFaultless source sink → IsWell answer
