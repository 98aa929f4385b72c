-- What whoever takes the steps of a group is told, and stands at.
use Rattle.std.specs.Prelude.{◌≡◌}
use Rattle.rt_task.specs.declared.Parts.{Parts}
use Rattle.rt_task.specs.declared.Step.{Step}
use Rattle.rt_task.specs.Validity.{IsValid}
use Rattle.rt_model.specs.Group.{Group}
use Rattle.rt_model.specs.Past.{Past}
use Rattle.rt_model.specs.Steps.{IsStepOf}

-- of which group, and at which past
abbrev pub Played : Type 1
Played = Group → Past → Type 0

-- a step of the group can be answered, to whose tick the clock was moved
pub record CanAnswer (moved : Played) (p : Parts) (step : Step) (g : Group) (past : Past) : Type 0 where
  pub moved_to : moved g past
  pub of_group : IsStepOf g step
  pub setup_is : p ≡ g.setup
  pub valid : IsValid p
