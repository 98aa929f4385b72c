use Rattle.std.proofs.Common.{◌≡◌, ◌∙◌, ap, map, subst, sym}
use Rattle.std.proofs.lemmas.Simd.{map-map}
use Rattle.rt_rules.specs.Distinct.{IsDistinct}
use Rattle.chart_rows.specs.Listed.{tasks_listed}
use Rattle.chart_rows.specs.Rows.{TaskKept}
use Rattle.chart_rows.specs.inside.Acted.{task_done, task_worked}
use Rattle.chart_rows.proofs.loops.act_tasks.Goals as goal

pub returns : goal.returns
returns c = λ g m once shown told.
    let worked : c.work_tasks.new.tasks ≡ map (task_worked g m) c.args.tasks.now = c.in_ok-work_tasks.ensures g m once (ap (λ a. a.cpu) shown) told in
    let still : IsDistinct (tasks_listed c.work_tasks.new.tasks) = subst IsDistinct (sym (ap tasks_listed worked ∙ map-map (λ (k : TaskKept). k.task) (task_worked g m) c.args.tasks.now)) once in
    c.end_tasks.ensures m still (ap (λ a. a.ended) shown) ∙ ap (map (task_done m)) worked ∙ map-map (task_done m) (task_worked g m) c.args.tasks.now
