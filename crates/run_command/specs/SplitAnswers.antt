-- The answers of the command `split`, each with its cause.
use Rattle.std.specs.Prelude.{◌≡◌, ◌≢◌, ◌⊎◌, ℕ}
use Rattle.rt_base.specs.declared.TheConstants.{MOST_SET_BYTES}
use Rattle.rt_task.specs.declared.bad_set.BadSet.{BadSet}
use Rattle.rt_fault.specs.Reading.{TakesAtMost, TakesOneMoreThan}
use Rattle.rt_fault.specs.declared.status.Status.{Status}
use Rattle.rt_fault.specs.declared.status.Status.TheVariants.{Ok, Invalid, BadInput, WriteFault, TooLong, NoMemory}
use Rattle.set_input.specs.Ends.{Reading, Writing, IsFaultless}
use Rattle.set_input.specs.Inputs.{WasRefused}
use Rattle.set_input.specs.Answers.{IsWell}
use Rattle.run_command.specs.Split.{CanSplit, SplitWasCut, WasNotSplit, WasSplit}

pub record SplitAnswers (source : Reading) (sink : Writing) (answer : Status) : Type 0 where
  -- all input was read, and the sink got the text of a split run of its set
  pub ok : answer ≡ Ok → WasSplit source sink
  -- all input was read, and has this refusal; or it is a set that cannot be run split, and this is said of it
  pub bad_input : (bad : BadSet) → answer ≡ BadInput bad → WasRefused source bad ⊎ WasNotSplit source bad
  -- one byte more than the limit was taken
  pub too_long : answer ≡ TooLong → TakesOneMoreThan MOST_SET_BYTES source.old.left source.new.left
  -- on any other answer at most the limit
  pub not_too_long : answer ≢ TooLong → TakesAtMost MOST_SET_BYTES source.old.left source.new.left
  -- a split set was read, and a first part of the text of a run of it written
  pub cut_by_fault : answer ≡ WriteFault → SplitWasCut source sink
  -- nothing was written
  pub no_memory : answer ≡ NoMemory → sink.new ≡ sink.old
  -- a line of a trace is never wrong
  pub not_invalid : (line : ℕ) → answer ≢ Invalid line
  -- a set that can be run split, from a source and to a sink without fault, is played to its end, unless memory runs out
  pub complete : CanSplit source.old.left → IsFaultless source sink → IsWell answer
