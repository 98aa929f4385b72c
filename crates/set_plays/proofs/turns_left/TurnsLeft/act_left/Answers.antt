use Rattle.std.proofs.Common.{◌≡◌, ◌≤◌, sym, ap, subst, arith}
use Rattle.rt_task.specs.Validity.{IsValid}
use Rattle.rt_model.specs.Situations.{next_act, situation}
use Rattle.rt_plays.specs.Groups.{GroupHistory, group_of, past}
use Rattle.set_plays.specs.TurnsLeft.{TurnsAhead, cpu_of}
use Rattle.set_plays.proofs.TurnLaws.{asked}
use Rattle.set_plays.proofs.CursorLaws.{begins-tick, goes-on-irq, over-full, processor-of, told-fits, told-left}
use Rattle.set_plays.proofs.turns_left.TurnsLeft.act_left.Goals as goal

pub situation-situation-requires : goal.situation-situation-requires
situation-situation-requires c = rw c.cpu.ensures (processor-of (group_of c.args.engine.now) c.args.self.now c.requires.turns)

pub returns-then-self-eq0-clause-left : goal.returns-then-self-eq0-clause-left
returns-then-self-eq0-clause-left c =
    let same = ap (λ (x : TurnsAhead). x.done) c.self.view_is in
    begins-tick (group_of c.args.engine.now) c.args.self.now (past c.args.engine.now) (omega (arith, same, c.if-self-eq0.true))

pub returns-then-self-eq1-clause-left : goal.returns-then-self-eq1-clause-left
returns-then-self-eq1-clause-left c =
    let same = ap (λ (x : TurnsAhead). x.done) c.self.view_is in
    goes-on-irq (group_of c.args.engine.now) c.args.self.now (past c.args.engine.now) (omega (arith, same, c.if-self-eq1.true))

pub returns-then-self-lt-MOST_TURN_STEPS-clause-left : goal.returns-then-self-lt-MOST_TURN_STEPS-clause-left
returns-then-self-lt-MOST_TURN_STEPS-clause-left c =
    let h : GroupHistory = c.args.engine.now in
    let same = ap (λ (x : TurnsAhead). x.done) c.self.view_is in
    let asked_of : c.next_act.result ≡ next_act (group_of h) (situation (group_of h) c.cpu.result.0 (past h)) =
    asked _ h _ _ _ c.requires.setup c.situation-situation.ensures c.next_act.ensures in
    let told : c.next_act.result ≡ next_act (group_of h) (situation (group_of h) (cpu_of c.args.self.now) (past h)) =
    rw (← c.cpu.ensures) asked_of in
    told-left (group_of h) c.args.self.now (past h) c.next_act.result
    (omega (arith, same, c.if-self-eq0.false, c.if-self-eq1.false)) (omega (arith, same, c.if-self-lt-MOST_TURN_STEPS.true)) told

pub returns-then-self-lt-MOST_TURN_STEPS-clause-act : goal.returns-then-self-lt-MOST_TURN_STEPS-clause-act
returns-then-self-lt-MOST_TURN_STEPS-clause-act c =
    let h : GroupHistory = c.args.engine.now in
    let asked_of : c.next_act.result ≡ next_act (group_of h) (situation (group_of h) c.cpu.result.0 (past h)) =
    asked _ h _ _ _ c.requires.setup c.situation-situation.ensures c.next_act.ensures in
    told-fits (group_of h) _ c.next_act.result (subst IsValid (sym c.requires.setup) c.parts-parts.ensures.valid) asked_of

pub returns-else-self-lt-MOST_TURN_STEPS-clause-left : goal.returns-else-self-lt-MOST_TURN_STEPS-clause-left
returns-else-self-lt-MOST_TURN_STEPS-clause-left c =
    let same = ap (λ (x : TurnsAhead). x.done) c.self.view_is in
    let full : 18 ≤ c.args.self.now.done = omega (arith, same, c.if-self-lt-MOST_TURN_STEPS.false) in
    over-full (group_of c.args.engine.now) c.args.self.now (past c.args.engine.now) full
