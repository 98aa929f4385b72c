use Rattle.std.proofs.Common.{◌≡◌, ap, ◌∙◌, sym}
use Rattle.rt_task.specs.declared.Parts.{Parts}
use Rattle.rt_model.specs.Group.{Group}
use Rattle.rt_plays.specs.Plays.{group_with}
use Rattle.body_play.proofs.ActLaws.{next_act-irq, next_act-job}
use Rattle.body_play.proofs.next_act.Goals as goal

pub returns-then-takes_interrupt : goal.returns-then-takes_interrupt
returns-then-takes_interrupt c = λ n. next_act-irq (group_with c.args.setup.now n) c.args.s.now c.takes_interrupt.result c.takes_interrupt.ensures c.if-takes_interrupt.true

pub returns-else-takes_interrupt : goal.returns-else-takes_interrupt
returns-else-takes_interrupt c = λ n.
    let g : Group = group_with c.args.setup.now n in
    let e : g.setup.tasks ≡ c.as_slice.result.now = sym (c.as_slice.ensures ∙ ap (λ (p : Parts). p.tasks) c.parts.ensures.parts) in
    next_act-job g c.args.s.now c.takes_interrupt.result c.act_of_job.result c.takes_interrupt.ensures c.if-takes_interrupt.false (c.act_of_job.ensures g e)
