use Rattle.std.proofs.Common.{arith, length, ◌∙◌, ◌≡◌, ◌≤◌}
use Rattle.std.specs.Prelude.{None, Ok, Option, Some}
use Rattle.rt_task.specs.Answers.{kept}
use Rattle.rt_task.specs.Validity.{refusal_of}
use Rattle.rt_task.specs.declared.Parts.{Parts}
use Rattle.rt_task.specs.declared.bad_set.BadSet.{BadSet}
use Rattle.part_tests.proofs.blocking.after_unlock.Goals as goal

-- what was made of parts is those parts
made-of : (p q : Parts) (o : Option BadSet) → kept p o ≡ Ok q → q ≡ p
made-of p q None h = cc
made-of p q (Some b) h = cc

pub feed-requires-2-clause-names : goal.feed-requires-2-clause-names
feed-requires-2-clause-names c =
    let made : c.in_ok-setup.setup ≡ c.in_ok-two_users.field-0 = made-of c.in_ok-two_users.field-0 c.in_ok-setup.setup (refusal_of c.in_ok-two_users.field-0) c.in_ok-setup.ensures in
    let same : c.feed.new.self.setup ≡ c.in_ok-two_users.field-0 = c.feed.ensures.setup ∙ c.in_ok-blocks.ensures.setup ∙ made in
    let tasks : 2 ≤ length c.in_ok-two_users.field-0.tasks = omega (arith, c.in_ok-two_users.ensures.tasks) in
    let sems : 1 ≤ length c.in_ok-two_users.field-0.sems = omega (arith, c.in_ok-two_users.ensures.sems) in
    rw (same, c.entry-2.ensures) ((omega arith, tasks), (omega arith, sems))
