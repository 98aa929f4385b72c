-- How far a processor is in its turns, in a body run.
use Rattle.std.specs.Prelude.{◌≡◌, ◌⊎◌, ℕ, ◌+◌, ◌<◌, ◌≤◌, ◌==◌, true, nat_le, Option, None, Some, if◌then◌else◌}
use Rattle.rt_base.specs.declared.TheConstants.{MOST_TURN_ACTS, MOST_TURN_STEPS}
use Rattle.rt_task.specs.declared.Act.{Act}
use Rattle.rt_task.specs.declared.Act.TheVariants as acts
use Rattle.rt_model.specs.Group.{Group}
use Rattle.rt_model.specs.Past.{Past}
use Rattle.rt_model.specs.Situations.{next_act, situation}
use Rattle.rt_plays.specs.Drives.{horizon}
use Rattle.rt_plays.specs.Turns.{has_none, is_between, steps_since, turns_begun}
use Rattle.cpu_site.specs.declared.progress.Progress.{Progress}

-- the act that a processor comes to after so many steps of a turn: its Tick, its Irq, and then its next acts, as many as a turn has at most
abbrev pub act_after : Group → ℕ → ℕ → Past → Option Act
act_after g q steps past =
    if steps == 0 then Some acts.Tick
    else (if steps == 1 then Some acts.Irq else (if nat_le MOST_TURN_STEPS steps then None else next_act g (situation g q past)))

-- no turn of the processor is under way, and so many were begun
pub record IsBetween (g : Group) (q turns : ℕ) (past : Past) : Type 0 where
  pub begun : turns_begun q past ≡ turns
  pub between : is_between g q past ≡ true

-- turn t of the processor is under way, and so many of its steps were taken
pub record IsUnderWay (g : Group) (q t steps : ℕ) (past : Past) : Type 0 where
  pub left : t < horizon g.setup.drive
  pub begun : turns_begun q past ≡ t + 1
  pub steps_are : steps ≡ steps_since q past + 1
  pub few : steps ≤ MOST_TURN_STEPS

-- the processor is so far in its turns
pub record IsAtTurn (g : Group) (q : ℕ) (past : Past) (at : Progress) : Type 0 where
  pub few : at.turns ≤ horizon g.setup.drive
  pub position : ((at.steps ≡ 0) × IsBetween g q at.turns past) ⊎ IsUnderWay g q at.turns at.steps past

-- turn t of the processor is over: its Tick and its Irq were played, and then all acts that a turn has, or its next act is none now
pub record IsTurnDone (g : Group) (q t : ℕ) (past : Past) : Type 0 where
  pub left : t < horizon g.setup.drive
  pub begun : turns_begun q past ≡ t + 1
  pub irq : 1 ≤ steps_since q past
  pub done : (steps_since q past ≡ MOST_TURN_ACTS + 1) ⊎ (has_none g q past ≡ true)
