use Rattle.std.proofs.Common.{◌≡◌, ◌∙◌, List, length, map, get_or, sym, ap, subst, arith}
use Rattle.rt_task.specs.Draft.{step_of}
use Rattle.rt_task.specs.declared.Parts.{Parts}
use Rattle.rt_task.specs.declared.Act.TheVariants.{Tick}
use Rattle.rt_task.specs.declared.Step.{Step}
use Rattle.rt_model.specs.Group.{Group}
use Rattle.rt_model.specs.Steps.{IsStepOf}
use Rattle.rt_plays.specs.Drives.{steps_given}
use Rattle.library_tour.specs.inside.TourGroup.{the_group}
use Rattle.library_tour.specs.inside.TourSet.{the_steps}
use Rattle.library_tour.proofs.TourLaws.{step-there}
use Rattle.library_tour.proofs.tour.play.Goals as goal

abbrev no_step : Step
no_step = record { cpu = record { 0 = 0 }; tick = record { 0 = 0 }; act = Tick }

pub step-requires-clause-step : goal.step-requires-clause-step
step-requires-clause-step c =
    let given : c.steps_given-steps.result.now ≡ map step_of the_steps = c.steps_given-steps.ensures ∙ ap (λ (p : Parts). steps_given p.drive) (c.parts.ensures.parts ∙ c.requires) in
    subst (λ (g : Group). IsStepOf g (get_or c.steps_given-steps.result.now c.loop-step.step-index no_step)) (sym c.loop-step.invariant.0)
    (subst (λ (steps : List Step). IsStepOf the_group (get_or steps c.loop-step.step-index no_step)) (sym given)
    (step-there c.loop-step.step-index no_step (omega (arith, c.loop-step-test.true, ap length given))))
