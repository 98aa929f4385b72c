use Rattle.std.proofs.Common.{◌<◌, ◌≤◌, arith}
use Rattle.std.proofs.lemmas.Grind.{common_steps}
use Rattle.rt_task.specs.declared.Act.TheVariants as acts
use Rattle.set_plays.proofs.CursorLaws.{begins-tick, step-of, turns_left-none, turns_left-step}
use Rattle.set_plays.proofs.turns_left.TurnsLeft.begin.Goals as goal

pub returns-then-are_over-clause-next : goal.returns-then-are_over-clause-next
returns-then-are_over-clause-next c g was =
    let over : c.args.self.now.horizon ≤ c.args.self.now.tick = omega arith in
    turns_left-none g c.args.self.now was over

pub returns-else-are_over-clause-next : goal.returns-else-are_over-clause-next
returns-else-are_over-clause-next c g was =
    let before : c.args.self.now.tick < c.args.self.now.horizon = grind (arith, common_steps) in
    rw (c.hand_out.ensures.step, c.hand_out.ensures.turns)
    (turns_left-step g c.args.self.now was before c.requires.position acts.Tick (begins-tick g c.args.self.now was c.requires.done))

pub returns-else-are_over-clause-step : goal.returns-else-are_over-clause-step
returns-else-are_over-clause-step c g turns =
    let before : c.args.self.now.tick < c.args.self.now.horizon = grind (arith, common_steps) in
    rw c.hand_out.ensures.step (step-of g c.args.self.now acts.Tick turns before tt)
