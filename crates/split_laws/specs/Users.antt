-- In a partition's past what runs is a task of the group, and so is what holds a semaphore or waits for it, which declares that semaphore.
use Rattle.std.specs.Prelude.{◌≡◌, ℕ, true, List, [], Some}
use Rattle.rt_rules.specs.Numbers.{has}
use Rattle.rt_model.specs.Group.{Group, declares, tasks}
use Rattle.rt_model.specs.Runs.{runs}
use Rattle.split_rules.specs.PartHistories.{IsLegalFrom, past_of}
use Rattle.split_rules.specs.PartPast.{PartPast, moves}
use Rattle.split_rules.specs.PartSems.{awaiting, holding}
use Rattle.split_rules.specs.declared.SplitEntry.{SplitEntry}

-- a task of the group that declares the semaphore
pub record IsUser (g : Group) (t s : ℕ) : Type 0 where
  pub there : has t (tasks g) ≡ true
  pub declared : declares g t s ≡ true

pub record AreUsers (g : Group) (q : ℕ) (past : PartPast) : Type 0 where
  pub runs_in : (t : ℕ) → runs q (moves past) ≡ Some t → has t (tasks g) ≡ true
  pub holders : (t s : ℕ) → holding t past ≡ Some s → IsUser g t s
  pub waiters : (t s : ℕ) → awaiting t past ≡ Some s → IsUser g t s

-- So it is in each legal history.
abbrev pub LegalPastHasUsers : Type 0
LegalPastHasUsers = (g : Group) (q : ℕ) (es : List SplitEntry) → IsLegalFrom g q [] es → AreUsers g q (past_of g q es)
