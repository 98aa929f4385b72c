use Rattle.std.proofs.Common.{◌≡◌, ℕ, ◌<◌, List, length, get_or, sym, ap, ◌∙◌, subst, rules}
use Rattle.rt_task.specs.Validity.{IsValid}
use Rattle.rt_task.specs.declared.Drive.TheVariants.{Steps}
use Rattle.rt_task.specs.declared.Parts.{Parts}
use Rattle.rt_task.specs.declared.Step.{Step}
use Rattle.rt_model.specs.Group.{Group}
use Rattle.rt_model.specs.Steps.{IsStepOf}
use Rattle.rt_plays.specs.Homes.{IsProcessorOf}
use Rattle.rt_laws.proofs.ValidSteps.{steps_are_of_groups}
use Rattle.program_tests.proofs.ranks.play.Goals as goal

-- a step of the set, whose processor is of the group
step-of : (p s : Parts) (v : Group) (steps all : List Step) (i : ℕ) (d : Step) → p ≡ s → IsValid s → p.drive ≡ Steps steps → all ≡ steps → i < length all
    → v ≡ record { setup = s; number = 0 } → IsProcessorOf (record { setup = s; number = 0 }) (get_or all i d).cpu.0 → IsStepOf v (get_or all i d)
step-of p s v steps all i d same valid drive listed inside group there =
    let g : Group = record { setup = s; number = 0 } in
    let drives = sym (ap (λ (x : Parts). x.drive) same) ∙ drive ∙ ap Steps (sym listed) in
    subst (λ (x : Group). IsStepOf x (get_or all i d)) (sym group) (steps_are_of_groups g valid all drives i d inside there)

pub take-requires-clause-step : goal.take-requires-clause-step
take-requires-clause-step g c = step-of c.parts-parts.result.now _ _ c.in-Steps.steps _ c.loop-i.i-counter _ c.parts-parts.ensures.parts c.parts-parts.ensures.valid c.in-Steps.is c.as_slice-step-items.ensures c.loop-i-test.true c.loop-i.invariant.group (c.is_of_group.ensures (search rules))
