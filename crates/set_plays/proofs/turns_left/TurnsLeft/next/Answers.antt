use Rattle.std.proofs.Common.{◌≡◌, ◌∷◌, ◌<◌, ◌≤◌, List, [], sym, subst, arith}
use Rattle.std.proofs.lemmas.Grind.{common_steps}
use Rattle.std.specs.Prelude.{MatchOption}
use Rattle.rt_task.specs.declared.Step.{Step}
use Rattle.rt_model.specs.Group.{Group}
use Rattle.rt_model.specs.Histories.{after}
use Rattle.rt_model.specs.Past.{Past}
use Rattle.rt_plays.specs.Groups.{group_of, past}
use Rattle.set_plays.specs.TurnsLeft.{turns_left, AreTurnsOf}
use Rattle.set_plays.proofs.CursorLaws.{step-of, turns_left-none, turns_left-over, turns_left-step}
use Rattle.set_plays.proofs.turns_left.TurnsLeft.next.Goals as goal

pub returns-then-are_over-clause-next : goal.returns-then-are_over-clause-next
returns-then-are_over-clause-next c =
    let over : c.args.self.now.horizon ≤ c.args.self.now.tick = omega arith in
    turns_left-none (group_of c.args.engine.now) c.args.self.now (past c.args.engine.now) over

pub returns-in-Some-clause-next : goal.returns-in-Some-clause-next
returns-in-Some-clause-next c =
    let before : c.args.self.now.tick < c.args.self.now.horizon = grind (arith, common_steps) in
    let g : Group = group_of c.args.engine.now in
    let was : Past = past c.args.engine.now in
    rw (c.hand_out.ensures.step, c.hand_out.ensures.turns)
    (turns_left-step g c.args.self.now was before c.requires.turns.position c.in-Some.act c.in-Some.ensures.left)

pub returns-in-Some-clause-step : goal.returns-in-Some-clause-step
returns-in-Some-clause-step c =
    let before : c.args.self.now.tick < c.args.self.now.horizon = grind (arith, common_steps) in
    rw c.hand_out.ensures.step (step-of _ c.args.self.now c.in-Some.act c.requires.turns before c.in-Some.ensures.act)

pub returns-in-None-clause-next : goal.returns-in-None-clause-next
returns-in-None-clause-next c =
    let g : Group = group_of c.args.engine.now in
    let was : Past = past c.args.engine.now in
    let before : c.args.self.now.tick < c.args.self.now.horizon = grind (arith, common_steps) in
    let turns : AreTurnsOf g c.args.self.now = c.requires.turns in
    let over = turns_left-over g c.args.self.now was before turns.position turns.processors c.in-None.ensures.left in
    let same : turns_left g c.end_turn.new.self was ≡ turns_left g c.args.self.now was = rw c.end_turn.ensures (sym over) in
    subst
    (λ (left : List Step). MatchOption c.begin.result (left ≡ []) (λ s. left ≡ s ∷ turns_left g c.begin.new.self (after g s was)))
    same (c.begin.ensures.next g was)
