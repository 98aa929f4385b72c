use Rattle.std.proofs.Common.{◌<◌, ◌^◌, arith}
use Rattle.std.proofs.lemmas.Bool.{both_ways}
use Rattle.rt_fault.specs.Memory.{Plan, IsFailing}
use Rattle.rt_fault.proofs.PlanLaws.{failed_calls-after_call, failed_calls-fails, failed_calls-no_fail}
use Rattle.rt_fault.proofs.plan.Plan.fails_next.Goals as goal

pub returns-clause-fault : goal.returns-clause-fault
returns-clause-fault c =
    let p : Plan = record { fails = c.self.inside.fails.items; calls = c.self.inside.calls } in
    λ yes.
    let failing : IsFailing p = rw c.as_slice.ensures.value at (c.has_number.ensures.0 yes) in
    rw (← c.self.view_is, c.saturating_add-self-inside.ensures) (failed_calls-fails p failing)

pub returns-clause-never_falls : goal.returns-clause-never_falls
returns-clause-never_falls c =
    let p : Plan = record { fails = c.self.inside.fails.items; calls = c.self.inside.calls } in
    let small : c.self.inside.calls < 2 ^ 64 = omega arith in
    rw (← c.self.view_is, c.saturating_add-self-inside.ensures) (failed_calls-after_call p small)

pub returns-clause-no_fault : goal.returns-clause-no_fault
returns-clause-no_fault c =
    let p : Plan = record { fails = c.self.inside.fails.items; calls = c.self.inside.calls } in
    λ no.
    let sure : IsFailing p → ⊥ = λ failing. both_ways c.has_number.result no (c.has_number.ensures.1 (rw c.as_slice.ensures.value failing)) in
    rw (← c.self.view_is, c.saturating_add-self-inside.ensures) (failed_calls-no_fail p (omega arith) sure)
