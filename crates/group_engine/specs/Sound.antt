-- What holds of an engine at all times.
use Rattle.std.specs.Prelude.{◌≡◌, ℕ, ◌+◌, ◌<◌, ◌≤◌, Bool, List, ◌∷◌, length, Option}
use Rattle.rt_base.specs.declared.TaskNo.{TaskNo}
use Rattle.rt_base.specs.declared.TheConstants.{MOST_STEPS}
use Rattle.rt_task.specs.declared.Parts.{Parts}
use Rattle.rt_task.specs.declared.Step.{Step}
use Rattle.rt_rules.specs.declared.history.Entry.{Entry}
use Rattle.rt_model.specs.Group.{Group}
use Rattle.rt_model.specs.Histories.{IsLegal, past_of}
use Rattle.rt_model.specs.Past.{Clock}
use Rattle.rt_model.specs.Steps.{IsStepOf}
use Rattle.rt_plays.specs.Endings.{ended_last}
use Rattle.rt_plays.specs.Groups.{AreStepsOf}
use Rattle.group_engine.specs.declared.state.GroupState.{GroupState}
use Rattle.cluster_table.specs.Marks.{Marks}
use Rattle.group_engine.specs.Links.{AreMarked}
use Rattle.group_engine.specs.Moments.{IsPlayed}
use Rattle.group_engine.specs.State.{IsAt}

-- there is room for the entries to come and for their arrivals, the entries are legal so far, and the state is of their past
pub record IsSound (g : Group) (entries : List Entry) (room : ℕ) (s : GroupState) : Type 0 where
  pub played : IsPlayed g
  pub limit : room ≤ MOST_STEPS
  pub within : length entries ≤ room
  pub arrivals : room ≤ length entries + s.core.room
  pub kept : IsAt g (past_of g entries) s
  pub legal : IsLegal g entries
  pub steps : AreStepsOf g entries

-- so many steps were taken, this is the task whose job the last of them ended, with whether that was late, and these clusters alone were
-- placed anew
pub record IsEngine (g : Group) (entries : List Entry) (room taken : ℕ) (s : GroupState)
    (ended : Option (TaskNo × Bool)) (placed : Marks) : Type 0 where
  pub sound : IsSound g entries room s
  pub taken_is : taken ≡ length entries
  pub ended_is : ended ≡ ended_last g (past_of g entries)
  pub placed_are : AreMarked g entries placed

-- a group, and the room for its entries
pub record Extent : Type 0 where
  pub group : Group
  pub room : ℕ

-- the state was sound, and then the clock moved to the tick of a step of the group, for which there is room
pub record IsMoved (at : Extent) (step : Step) (parts : Parts) (entries : List Entry) (s : GroupState) : Type 0 where
  pub before : GroupState
  pub sound : IsSound at.group entries at.room before
  pub parts_are : parts ≡ at.group.setup
  pub step_is_of : IsStepOf at.group step
  pub spare : length entries < at.room
  pub kept : IsAt at.group (Clock step.tick.0 ∷ past_of at.group entries) s
  pub arrivals : s.core.room ≡ before.core.room
