use Rattle.split_writer.proofs.replay.play.Goals as goal

pub returns-in-Take : goal.returns-in-Take
returns-in-Take c = rw c.in-Take.is (c.take.ensures c.in-Take.no)
