use Rattle.std.proofs.Common.{◌≡◌, [], length, map, drop, fold, max}
use Rattle.rt_task.specs.declared.Resv.{Resv}
use Rattle.rt_task.specs.declared.Task.{Task}
use Rattle.chart_texts.specs.ChartText.{width_of}
use Rattle.chart_texts.specs.TaskLines.{task_label}
use Rattle.chart_lines.proofs.page.longest_label.Given as goal

-- the width so far, with the labels that are left, is that of all
abbrev pub invariant-loop-task : goal.invariant-loop-task
invariant-loop-task l = fold max l.width (map (λ (t : Task). length (task_label t.name t.number.0)) (drop l.task-index l.tasks)) ≡ width_of l.tasks []

abbrev pub invariant-loop-resv : goal.invariant-loop-resv
invariant-loop-resv l = fold max l.width (map (λ (r : Resv). length r.name) (drop l.resv-index l.resvs)) ≡ width_of l.tasks l.resvs
