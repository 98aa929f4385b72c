-- The steps of a group that are left to be played.
use Rattle.std.specs.Prelude.{◌≡◌, ℕ, ◌*◌, ◌≤◌, List, [], length, map, All}
use Rattle.rt_base.specs.declared.TheConstants.{MOST_STEPS, MOST_TURN_STEPS}
use Rattle.rt_task.specs.declared.Step.{Step}
use Rattle.rt_rules.specs.declared.history.Entry.{Entry}
use Rattle.rt_model.specs.Group.{Group}
use Rattle.rt_model.specs.Past.{Past}
use Rattle.rt_model.specs.Steps.{IsStepOf}
use Rattle.rt_plays.specs.Groups.{AreStepsOf}
use Rattle.set_plays.specs.TurnsLeft.{AreTurnsOf, turns_left}
use Rattle.set_plays.specs.declared.steps_left.StepsLeft.{StepsLeft}
use Rattle.set_plays.specs.declared.steps_left.StepsLeft.TheVariants.{Given, Again, Turns}

-- they, at a past
abbrev pub steps_left : Group → StepsLeft → Past → List Step
steps_left g (Given steps) past = steps.now
steps_left g (Again entries) past = map (λ (e : Entry). e.step) entries.now
steps_left g (Turns turns) past = turns_left g turns past

-- they are steps of the group
abbrev pub AreOf : Group → StepsLeft → Type 0
AreOf g (Given steps) = All (IsStepOf g) steps.now
AreOf g (Again entries) = AreStepsOf g entries.now
AreOf g (Turns turns) = AreTurnsOf g turns

-- room for their entries, where none was played yet
abbrev pub room_of : StepsLeft → ℕ
room_of (Given steps) = length steps.now
room_of (Again entries) = length entries.now
room_of (Turns turns) = turns.horizon * length turns.cpus * MOST_TURN_STEPS

-- none of these steps was played yet, and there is room for all
pub record AreReady (g : Group) (steps : List Step) (left : StepsLeft) : Type 0 where
  pub of : AreOf g left
  pub steps_are : steps_left g left [] ≡ steps
  pub few : room_of left ≤ MOST_STEPS
  pub enough : length steps ≤ room_of left
