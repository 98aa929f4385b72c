-- How the reading of an input ends, where it is not read or is refused.
use Rattle.std.specs.Prelude.{◌≡◌, ◌≢◌, ℕ, Result, Err}
use Rattle.rt_task.specs.declared.bad_set.BadSet.{BadSet}
use Rattle.rt_fault.specs.Faults.{HasRisen}
use Rattle.rt_fault.specs.Reading.{TakesAtMost, TakesOneMoreThan}
use Rattle.rt_fault.specs.declared.status.Status.{Status}
use Rattle.rt_fault.specs.declared.status.Status.TheVariants.{Invalid, Usage, BadInput, ReadFault, WriteFault, TooLong}
use Rattle.rt_fault.specs.declared.status.Status.TheVariants as ends
use Rattle.set_input.specs.Ends.{Reading}

pub record EndsReading {T : Type 0} (source : Reading) (limit : ℕ) (refused : BadSet → Type 0) (result : Result T Status) : Type 0 where
  -- all input was read, and has this refusal
  pub bad_input : (bad : BadSet) → result ≡ Err (BadInput bad) → refused bad
  -- a read failed
  pub read_fault : result ≡ Err ReadFault → HasRisen source.old.faults source.new.faults
  -- on any other end none did
  pub no_read_fault : result ≢ Err ReadFault → source.new.faults ≡ source.old.faults
  -- one byte more than the limit was taken
  pub too_long : result ≡ Err TooLong → TakesOneMoreThan limit source.old.left source.new.left
  -- on any other end at most the limit
  pub not_too_long : result ≢ Err TooLong → TakesAtMost limit source.old.left source.new.left
  -- and besides, that memory ran out
  pub not_ok : result ≢ Err ends.Ok
  pub not_invalid : (line : ℕ) → result ≢ Err (Invalid line)
  pub not_usage : result ≢ Err Usage
  pub not_write_fault : result ≢ Err WriteFault
