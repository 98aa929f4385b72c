use Rattle.std.proofs.Common.{◌∙◌, ◌-◌, List, codes, get_or, ap, refl}
use Rattle.std.proofs.lemmas.Result.{on_ok_weaker}
use Rattle.rt_task.specs.declared.Task.{Task}
use Rattle.rt_model.specs.Group.{no_task, task}
use Rattle.event_lines.specs.TrackEvents.{some_group}
use Rattle.event_lines.proofs.CpuSpans.{busy-put, idle-put, runs-told, works-told}
use Rattle.event_lines.proofs.cpu_spans.put_span.Goals as goal

pub returns-in-WorksFor : goal.returns-in-WorksFor
unfolding task
returns-in-WorksFor c =
    let g = some_group c.args.set.now in
    let t = c.in-WorksFor.task in
    on_ok_weaker c.put_busy.result (λ put.
    busy-put g c.args.thread.now.process c.args.cpu.0 c.args.span _ _ (codes "work") t _ _ c.requires
    (c.task_name.ensures ∙ ap (λ (ts : List Task). (get_or ts (t.0 - 1) no_task).name) c.as_slice-tasks.ensures)
    (works-told g c.args.thread.now.process c.args.cpu.0 c.args.span t c.in-WorksFor.is) (put (codes "work") refl)) c.put_busy.ensures

pub returns-in-RunsTask : goal.returns-in-RunsTask
unfolding task
returns-in-RunsTask c =
    let g = some_group c.args.set.now in
    let t = c.in-RunsTask.task in
    on_ok_weaker c.put_busy-in-RunsTask.result (λ put.
    busy-put g c.args.thread.now.process c.args.cpu.0 c.args.span _ _ (codes "runs") t _ _ c.requires
    (c.task_name-in-RunsTask.ensures ∙ ap (λ (ts : List Task). (get_or ts (t.0 - 1) no_task).name) c.as_slice-tasks.ensures)
    (runs-told g c.args.thread.now.process c.args.cpu.0 c.args.span t c.in-RunsTask.is) (put (codes "runs") refl)) c.put_busy-in-RunsTask.ensures

pub returns-in-Idle : goal.returns-in-Idle
returns-in-Idle c = idle-put (some_group c.args.set.now) c.args.thread.now.process c.args.cpu.0 c.args.span c.args.text.now.items c.in-Idle.is
