-- Histories of the partitions of a split set, each of which has played its script.
use Rattle.std.specs.Global.{Vec}
use Rattle.std.specs.Prelude.{◌≡◌, ℕ, ◌<◌, true, List, [], length, map, slice_index_or}
use Rattle.rt_task.specs.Validity.{IsValid}
use Rattle.rt_task.specs.declared.Parts.{Parts}
use Rattle.rt_plays.specs.Drives.{steps_given}
use Rattle.rt_plays.specs.Room.{processor_count}
use Rattle.rt_plays.specs.Scripts.{script}
use Rattle.split_rules.specs.PartHistories.{IsLegalFrom, steps_of}
use Rattle.split_rules.specs.Partitions.{part_group}
use Rattle.split_rules.specs.declared.SplitEntry.{SplitEntry}
use Rattle.split_set.specs.SplitSets.{is_split_set}

-- the lists that vectors hold
abbrev pub lists : {A : Type 0} → List (Vec A) → List (List A)
lists {A} vs = map (λ (v : Vec A). v.items) vs

-- the partition of processor q of a split set
pub record IsPartition (p : Parts) (q : ℕ) : Type 0 where
  pub valid : IsValid p
  pub split : is_split_set p ≡ true
  pub there : q < processor_count p

-- its replies are those that the rules give, and its script was played
pub record IsPartPlay (p : Parts) (q : ℕ) (es : List SplitEntry) : Type 0 where
  pub legal : IsLegalFrom (part_group p q) q [] es
  pub script_is : steps_of q es ≡ script (steps_given p.drive) q

-- one of each processor, by rising number
pub record ArePartPlays (p : Parts) (parts : List (List SplitEntry)) : Type 0 where
  pub count : length parts ≡ processor_count p
  pub each : (q : ℕ) → q < length parts → IsPartPlay p q (slice_index_or parts q [])
