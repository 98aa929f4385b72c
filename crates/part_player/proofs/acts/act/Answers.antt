use Rattle.std.proofs.Common.{sym, ap, ◌∙◌}
use Rattle.rt_task.specs.declared.Act.{Act}
use Rattle.rt_task.specs.declared.Act.TheVariants as acts
use Rattle.rt_rules.specs.declared.history.Reply.{Reply}
use Rattle.part_state.specs.States.{after_act}
use Rattle.part_player.proofs.acts.act.Goals as goal

pub returns-in-Irq-Runs : goal.returns-in-Irq-Runs
returns-in-Irq-Runs c =
    c.interrupt.ensures c.args.tasks.now
    ∙ ap (λ (r : Reply). after_act c.args.tasks.now c.args.cpu.0 acts.Irq r c.args.state.now) (sym c.in-Irq-Runs.is-1)
    ∙ ap (λ (a : Act). after_act c.args.tasks.now c.args.cpu.0 a c.args.reply c.args.state.now) (sym c.in-Irq-Runs.is-0)

pub returns-in-Irq-Idles : goal.returns-in-Irq-Idles
returns-in-Irq-Idles c =
    c.interrupt-in-Irq-Idles.ensures c.args.tasks.now
    ∙ ap (λ (r : Reply). after_act c.args.tasks.now c.args.cpu.0 acts.Irq r c.args.state.now) (sym c.in-Irq-Idles.is-1)
    ∙ ap (λ (a : Act). after_act c.args.tasks.now c.args.cpu.0 a c.args.reply c.args.state.now) (sym c.in-Irq-Idles.is-0)
