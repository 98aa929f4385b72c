use Rattle.std.proofs.Common.{sym, ap, ◌∙◌}
use Rattle.rt_base.specs.TaskNos.{number_of_task}
use Rattle.split_writer.proofs.replay.play_op.Goals as goal

pub operate-requires-clause-task : goal.operate-requires-clause-task
operate-requires-clause-task c = c.requires.runs _ (sym c.runs.ensures ∙ ap number_of_task c.in-Some.is)
