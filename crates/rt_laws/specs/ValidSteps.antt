-- Each step of a valid set is a step of its processor's group.
use Rattle.std.specs.Prelude.{◌≡◌, true, All, List}
use Rattle.rt_task.specs.declared.Drive.TheVariants.{Steps}
use Rattle.rt_task.specs.declared.Step.{Step}
use Rattle.rt_task.specs.Validity.{IsValid}
use Rattle.rt_rules.specs.Numbers.{has}
use Rattle.rt_model.specs.Group.{Group, group_processors}
use Rattle.rt_model.specs.Steps.{IsStepOf}

abbrev pub StepsAreOfGroups : Type 0
StepsAreOfGroups = (g : Group) → IsValid g.setup → (steps : List Step) → g.setup.drive ≡ Steps steps
    → All (λ (s : Step). has s.cpu.0 (group_processors g) ≡ true → IsStepOf g s) steps
