-- The moments between moves of a group, and what moves rest on.
use Rattle.std.specs.Prelude.{◌≡◌, ℕ, ◌<◌, ◌∷◌, true}
use Rattle.rt_base.specs.declared.TheConstants.{MOST_STEPS, TICK_END}
use Rattle.rt_task.specs.declared.Act.{Act}
use Rattle.rt_task.specs.declared.Parts.{Parts}
use Rattle.rt_task.specs.declared.Step.{Step}
use Rattle.rt_task.specs.Validity.{IsValid}
use Rattle.rt_model.specs.Answers.{answer}
use Rattle.rt_rules.specs.Numbers.{has}
use Rattle.rt_model.specs.Group.{Group, clusters, sems, users}
use Rattle.rt_model.specs.Outcomes.{past_act}
use Rattle.rt_model.specs.Histories.{clock_moved}
use Rattle.rt_model.specs.Past.{Acted, entries_in}
use Rattle.rt_model.specs.Steps.{IsActOf}
use Rattle.rt_plays.specs.Homes.{IsProcessorOf}
use Rattle.rt_plays.specs.Endings.{ended_in}
use Rattle.rt_plays.specs.Groups.{GroupHistory, IsGroupOf, group_of, past}
use Rattle.group_core.specs.Words.{GroupAt}
use Rattle.group_core.specs.declared.looks.Answer.{Answer}
use Rattle.group_engine.specs.declared.state.GroupState.{GroupState}
use Rattle.group_engine.specs.Ending.{IsEnding}
use Rattle.group_engine.specs.State.{IsAt}

-- a group of a valid set
pub record IsPlayed (g : Group) : Type 0 where
  pub valid : IsValid g.setup
  pub is_there : IsGroupOf g.setup g.number

-- the moment between the two moves of a step that follows a history
abbrev pub between : GroupHistory → Step → GroupAt
between h step = record { group = group_of h; past = clock_moved step (past h) }

-- the state is of this moment of a group with these parts, and the tick is within the limit
pub record CanMove (at : GroupAt) (tick : ℕ) (parts : Parts) (s : GroupState) : Type 0 where
  pub played : IsPlayed at.group
  pub kept : IsAt at.group at.past s
  pub parts_are : parts ≡ at.group.setup
  pub tick_low : tick < TICK_END

-- and the act is one of a processor of the group
pub record CanAct (at : GroupAt) (cpu : ℕ) (act : Act) (s : GroupState) : Type 0 where
  pub played : IsPlayed at.group
  pub kept : IsAt at.group at.past s
  pub inside : IsProcessorOf at.group cpu
  pub act_is_of : IsActOf at.group act
  pub few : entries_in at.past < MOST_STEPS

pub record CanActOn (at : GroupAt) (cpu : ℕ) (act : Act) (parts : Parts) (s : GroupState) : Type 0 where
  pub can : CanAct at cpu act s
  pub parts_are : parts ≡ at.group.setup

-- a move of a group that is played is to be ended
pub record CanEnd (at : GroupAt) (parts : Parts) (s : GroupState) : Type 0 where
  pub played : IsPlayed at.group
  pub ending : IsEnding at.group at.past s
  pub parts_are : parts ≡ at.group.setup

-- the act was answered and ended the job that is told, and the state is of the past with it
pub record HasActed (at : GroupAt) (cpu : ℕ) (act : Act) (told : Answer) (s : GroupState) : Type 0 where
  pub reply_is : told.reply ≡ answer at.group cpu act at.past
  pub ended_is : told.ended ≡ ended_in at.group (past_act at.group cpu act at.past) at.past
  pub kept : IsAt at.group (Acted (past_act at.group cpu act at.past) ∷ at.past) s

-- the processor is one of a moment's group
abbrev pub CanLook : ℕ → GroupState → Type 0
CanLook cpu s = (at : GroupAt) × IsAt at.group at.past s × IsProcessorOf at.group cpu

-- and the group is one that is played
abbrev pub CanTell : ℕ → GroupState → Type 0
CanTell cpu s = (at : GroupAt) × IsPlayed at.group × IsAt at.group at.past s × IsProcessorOf at.group cpu

-- the cluster is one of a moment's group
abbrev pub CanLend : ℕ → GroupState → Type 0
CanLend c s = (at : GroupAt) × IsAt at.group at.past s × (has c (clusters at.group) ≡ true)

-- a task of the group declares the semaphore
abbrev pub IsDeclared : Group → ℕ → Type 0
IsDeclared g s = (has s (sems g) ≡ true) × ((u : ℕ) × (has u (users g s) ≡ true))
