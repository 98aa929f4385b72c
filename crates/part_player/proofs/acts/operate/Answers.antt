use Rattle.std.proofs.Common.{sym, ap, ◌∙◌}
use Rattle.rt_base.specs.TaskNos.{number_of_task}
use Rattle.part_player.proofs.acts.operate.Goals as goal

pub operate-requires-clause-task : goal.operate-requires-clause-task
operate-requires-clause-task c = c.requires.runs c.in-Some.task.0 (sym c.runs.ensures ∙ ap number_of_task c.in-Some.is)
