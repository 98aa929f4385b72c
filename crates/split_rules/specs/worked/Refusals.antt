-- Worked examples of what is refused: histories that are not legal, or do not match.
use Rattle.std.specs.Prelude.{◌≡◌, true, false, List, [], ◌∷◌, None, Some, refl}
use Rattle.rt_base.specs.declared.Ask.TheVariants.{Queued}
use Rattle.rt_rules.specs.Numbers.{has, is}
use Rattle.rt_rules.specs.declared.history.Reply.TheVariants as replies
use Rattle.rt_model.specs.worked.Samples.{irq, lock, runs_task}
use Rattle.split_rules.specs.worked.Computed.{computed_splits}
use Rattle.split_rules.specs.Matching.{claims, granted_at, rise_from, taken_at}
use Rattle.split_rules.specs.PartHistories.{past_of}
use Rattle.split_rules.specs.PartPast.{deeds}
use Rattle.split_rules.specs.PartSems.{awaiting, holding}
use Rattle.split_rules.specs.worked.Samples.{plain, take}
use Rattle.split_rules.specs.SemHistories.{outcome, sem_state}
use Rattle.split_rules.specs.worked.Splits.{passed_on, second_part, two_parts}
use Rattle.split_rules.specs.declared.SplitEntry.{SplitEntry}

-- a task that holds the semaphore, and one that waits for it, may not ask, and only the holder frees it
pub holder_asks_again : is 2 (sem_state two_parts 1 passed_on).holder ≡ true
unfolding computed_splits
holder_asks_again = refl

pub nobody_waits_then : has 1 (sem_state two_parts 1 passed_on).waiting ≡ false
unfolding computed_splits
nobody_waits_then = refl

-- a request while another holds is not granted
pub not_granted : outcome (sem_state two_parts 1 passed_on).holder ≡ Queued
unfolding computed_splits
not_granted = refl

-- a grant that is taken twice: the numbers do not rise, and the second stands where its task does not wait
abbrev pub twice : List SplitEntry
twice = plain 0 irq (runs_task 2) ∷ plain 0 (lock 1) replies.Queued ∷ take 0 1 2 2 ∷ take 0 1 2 2 ∷ []

pub twice_does_not_rise : rise_from 0 (taken_at 2 1 (claims (deeds (past_of two_parts 1 twice)))) ≡ false
unfolding computed_splits
twice_does_not_rise = refl

pub waits_no_more : awaiting 2 (past_of two_parts 1 second_part) ≡ None
unfolding computed_splits
waits_no_more = refl

pub holds_then : holding 2 (past_of two_parts 1 second_part) ≡ Some 1
unfolding computed_splits
holds_then = refl

-- entry 1 of the history grants nobody, so that a grant by it is none of the history's
pub no_release : granted_at passed_on 1 ≡ None
unfolding computed_splits
no_release = refl

pub no_entry : granted_at passed_on 3 ≡ None
unfolding computed_splits
no_entry = refl

-- a numbers list that falls, and one that stays
pub falling : rise_from 0 (2 ∷ 1 ∷ []) ≡ false
falling = refl

pub staying : rise_from 0 (2 ∷ 2 ∷ []) ≡ false
staying = refl
