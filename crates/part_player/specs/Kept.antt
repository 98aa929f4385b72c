-- What is kept of a partition beside its history.
use Rattle.std.specs.Prelude.{◌≡◌, ℕ, Bool, true, List, length, Option, Some, slice_get}
use Rattle.rt_task.specs.declared.Parts.{Parts}
use Rattle.rt_task.specs.declared.Step.{Step}
use Rattle.mpcp_ceilings.specs.Ceilings.{AreCeilings, CeilingTable}
use Rattle.split_rules.specs.PartHistories.{past_of, steps_of}
use Rattle.split_rules.specs.PartLinks.{tasks}
use Rattle.split_rules.specs.PartPast.{PartPast}
use Rattle.split_rules.specs.Partitions.{part_group}
use Rattle.split_rules.specs.declared.SplitEntry.{SplitEntry}
use Rattle.part_state.specs.States.{IsAt, PartState}
use Rattle.part_player.specs.Players.{IsPlayed, moved, own_script}

-- the past at which the state stands: where the next step was begun, with the clock at its tick
abbrev pub stands_at : Bool → Option Step → PartPast → PartPast
stands_at true (Some x) past = moved x past
stands_at _ _ past = past

pub record IsKept (p : Parts) (q : ℕ) (es : List SplitEntry) (begun : Bool) (steps : List Step) (played : ℕ) (own : List ℕ)
    (ceilings : CeilingTable) (state : PartState) : Type 0 where
  pub history : IsPlayed p q es
  pub steps_are : steps ≡ own_script p q
  pub played_is : played ≡ length (steps_of q es)
  pub own_are : own ≡ tasks (part_group p q) q
  pub ceilings_are : AreCeilings (part_group p q) ceilings
  pub at : IsAt (part_group p q) (stands_at begun (slice_get steps played) (past_of (part_group p q) q es)) state
