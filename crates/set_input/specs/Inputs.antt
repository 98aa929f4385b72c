-- What is read of a set.
use Rattle.std.specs.Prelude.{◌≡◌, ℕ, ◌≤◌, List, length, Option, None, Some, Ok, Err, IsOk}
use Rattle.rt_base.specs.declared.TheConstants.{MOST_SET_BYTES}
use Rattle.rt_task.specs.declared.Parts.{Parts}
use Rattle.rt_task.specs.declared.bad_set.BadSet.{BadSet}
use Rattle.rt_task.specs.Validity.{IsValid}
use Rattle.rt_fault.specs.Reading.{TakesAll}
use Rattle.set_read.specs.Sets.{set}
use Rattle.set_input.specs.Ends.{Reading}

-- what was read to its end is within the limit and stands for a set
pub record WasRead (source : Reading) (p : Parts) : Type 0 where
  pub bytes : List ℕ
  pub all : TakesAll source.old.left source.new.left bytes
  pub within : length bytes ≤ MOST_SET_BYTES
  pub reads : set bytes ≡ Ok p
  pub valid : IsValid p

-- or for none, with the refusal
pub record WasRefused (source : Reading) (b : BadSet) : Type 0 where
  pub bytes : List ℕ
  pub all : TakesAll source.old.left source.new.left bytes
  pub within : length bytes ≤ MOST_SET_BYTES
  pub refused : set bytes ≡ Err b

-- what is still to come is told, and is within the limit and a set
abbrev pub CanPlay : Option (List ℕ) → Type 0
CanPlay None = ⊥
CanPlay (Some bytes) = (length bytes ≤ MOST_SET_BYTES) × IsOk (set bytes)
