use Rattle.split_writer.proofs.replay.play_irq.Goals as goal

pub returns-in-Runs : goal.returns-in-Runs
returns-in-Runs c = λ all. rw c.in-Runs.is (c.interrupt.ensures all)

pub returns-in-Idles : goal.returns-in-Idles
returns-in-Idles c = λ all. rw c.in-Idles.is (c.interrupt-in-Idles.ensures all)
