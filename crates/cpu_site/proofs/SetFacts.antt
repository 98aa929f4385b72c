-- What a valid set says of a group's steps and processors.
use Rattle.std.proofs.Common.{◌≤◌, not, length, refl, arith}
use Rattle.std.specs.Prelude.{All}
use Rattle.std.proofs.lemmas.List.Elements.{All-filter}
use Rattle.std.proofs.lemmas.List.Filters.{length-filter_both}
use Rattle.rt_base.specs.declared.TheConstants.{MOST_CPUS, MOST_STEPS}
use Rattle.rt_task.specs.declared.Step.{Step}
use Rattle.rt_task.specs.Validity.{IsValid}
use Rattle.rt_rules.specs.Numbers.{has}
use Rattle.rt_model.specs.Group.{Group, group_processors}
use Rattle.rt_model.specs.Steps.{IsStepOf}
use Rattle.rt_plays.specs.Drives.{steps_given}
use Rattle.rt_plays.specs.Homes.{IsProcessorOf}
use Rattle.rt_plays.specs.Order.{steps_in_group}
use Rattle.rt_plays.proofs.ProcessorLaws.{processors-few}
use Rattle.rt_plays.proofs.GroupLimits.{steps-few, steps-of_groups}
use Rattle.rt_plays.proofs.SetLimits.{sets_are_in_limits}

-- no group has more steps than a set may have
pub group-steps_few : (g : Group) → IsValid g.setup → length (steps_in_group g (steps_given g.setup.drive)) ≤ MOST_STEPS
group-steps_few g valid =
    let test = λ (s : Step). has s.cpu.0 (group_processors g) in
    omega (arith, length-filter_both test (λ s. not (test s)) (λ s. refl) (steps_given g.setup.drive), steps-few g.setup valid)

-- each is a step of the group, where its processor is
pub group-steps : (g : Group) → IsValid g.setup → All (λ (s : Step). IsProcessorOf g s.cpu.0 → IsStepOf g s) (steps_in_group g (steps_given g.setup.drive))
group-steps g valid = All-filter (λ (s : Step). has s.cpu.0 (group_processors g)) (λ (s : Step). IsProcessorOf g s.cpu.0 → IsStepOf g s) (steps_given g.setup.drive) (steps-of_groups g valid)

-- no group has more processors than a set may have
pub cpus-few : (g : Group) → IsValid g.setup → length (group_processors g) ≤ MOST_CPUS
cpus-few g valid = omega (arith, processors-few g, (sets_are_in_limits g.setup valid).few_cpus)
