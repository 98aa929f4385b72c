use Rattle.split_writer.proofs.replay.play_act.Goals as goal

pub returns-in-Irq : goal.returns-in-Irq
returns-in-Irq c = rw c.in-Irq.is (c.play_irq.ensures c.args.tasks.now)
