use Rattle.std.proofs.Common.{◌≡◌, ◌<◌, ◌^◌, [], length, map, drop, fold, max}
use Rattle.rt_task.specs.declared.Resv.{Resv}
use Rattle.svg_texts.specs.SvgText.{label_length, task_label_length}
use Rattle.svg_lines.proofs.page.label_length.Given as goal

-- the length so far, with the labels that are left, is that of all
abbrev pub invariant-loop-task : goal.invariant-loop-task
invariant-loop-task l = record {
  length_is : fold max l.longest (map task_label_length (drop l.task-index l.tasks)) ≡ label_length l.tasks [];
  small : l.longest < 2 ^ 80;
}

abbrev pub invariant-loop-resv : goal.invariant-loop-resv
invariant-loop-resv l = record {
  length_is : fold max l.longest (map (λ (r : Resv). length r.name) (drop l.resv-index l.resvs)) ≡ label_length l.tasks l.resvs;
  small : l.longest < 2 ^ 80;
}
