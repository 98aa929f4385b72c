-- What a run of `split` reads and writes.
use Rattle.std.specs.Prelude.{◌≡◌, ℕ, true, false, List, ◌≤◌, Option, None, Some, Result, Ok, Err, IsOkAnd, Vec, length}
use Rattle.std.specs.declared.alloc.Global.{Global}
use Rattle.rt_base.specs.declared.TheConstants.{MOST_SET_BYTES}
use Rattle.rt_task.specs.declared.Parts.{Parts}
use Rattle.rt_task.specs.declared.bad_set.BadSet.{BadSet}
use Rattle.rt_task.specs.declared.bad_set.Part.TheVariants.{Whole}
use Rattle.rt_task.specs.declared.bad_set.SetKind.TheVariants.{NotSplit}
use Rattle.rt_task.specs.Refusals.{bad}
use Rattle.rt_fault.specs.Held.{Extends, ExtendsByPrefix}
use Rattle.rt_fault.specs.declared.status.Status.{Status}
use Rattle.rt_fault.specs.declared.status.Status.TheVariants as ends
use Rattle.set_read.specs.Sets.{set}
use Rattle.split_part.specs.Ends.{EndOf}
use Rattle.split_run.specs.RunEnds.{IsRunEnd}
use Rattle.split_set.specs.SplitSets.{is_split_set}
use Rattle.split_text.specs.SplitText.{split_text}
use Rattle.set_input.specs.Ends.{Reading, Writing}
use Rattle.set_input.specs.Inputs.{WasRead}

-- the text is that of a split run of the set, in which each processor played its script: of legal histories that match, in which
-- each grant by a release was taken, and no semaphore has two holders at the end
pub record IsSplitText (p : Parts) (text : List ℕ) : Type 0 where
  pub end : EndOf
  pub split : is_split_set p ≡ true
  pub is_end : IsRunEnd p end
  pub text_is : text ≡ split_text p end.sems end.parts

-- the refusal of a set that cannot be run split
abbrev pub not_split : BadSet
not_split = bad NotSplit Whole 0

-- a set's text, or why there is none
abbrev pub IsSplitRun : Parts → Result (Vec ℕ Global) Status → Type 0
IsSplitRun p (Ok text) = IsSplitText p text.items
IsSplitRun p (Err (ends.BadInput b)) = (is_split_set p ≡ false) × (b ≡ not_split)
IsSplitRun p (Err ends.NoMemory) = Unit {0}
IsSplitRun p (Err _) = ⊥

-- a split set was read, and the whole text of a run of it came
pub record WasSplit (source : Reading) (sink : Writing) : Type 0 where
  pub setup : Parts
  pub text : List ℕ
  pub read : WasRead source setup
  pub run : IsSplitText setup text
  pub written : Extends sink.old.held sink.new.held text

-- a split set was read, and a first part of such a text came
pub record SplitWasCut (source : Reading) (sink : Writing) : Type 0 where
  pub setup : Parts
  pub text : List ℕ
  pub read : WasRead source setup
  pub run : IsSplitText setup text
  pub written : ExtendsByPrefix sink.old.held sink.new.held text

-- a set was read that cannot be run split, and this is its refusal
pub record WasNotSplit (source : Reading) (b : BadSet) : Type 0 where
  pub setup : Parts
  pub read : WasRead source setup
  pub not_split_set : is_split_set setup ≡ false
  pub refusal : b ≡ not_split

-- what is still to come is told, and is within the limit and a set that can be run split
abbrev pub CanSplit : Option (List ℕ) → Type 0
CanSplit None = ⊥
CanSplit (Some bytes) = (length bytes ≤ MOST_SET_BYTES) × IsOkAnd (set bytes) (λ p. is_split_set p ≡ true)
