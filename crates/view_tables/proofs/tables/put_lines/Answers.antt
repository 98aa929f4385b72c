use Rattle.std.proofs.Common.{◌≡◌, ◌∙◌, ◌++◌, sym, ap}
use Rattle.std.proofs.lemmas.Result.{on_ok_weaker}
use Rattle.rt_model.specs.Group as groups
use Rattle.rt_task.specs.declared.Task.{Task}
use Rattle.table_texts.specs.Fields.{line_of}
use Rattle.table_texts.specs.TaskText.{task_fields}
use Rattle.job_views.specs.Tables.{IsTableWith}
use Rattle.job_views.specs.TaskRowsShown.{task_row_shown}
use Rattle.view_tables.specs.declared.tables.Table.{Table}
use Rattle.view_tables.specs.inside.Playing.{group_of}
use Rattle.view_tables.specs.Texts.{task_text}
use Rattle.view_tables.proofs.GroupTexts.{table-of, task_row-task}
use Rattle.view_tables.proofs.tables.put_lines.Goals as goal

pub returns-in-Tasks : goal.returns-in-Tasks
returns-in-Tasks c =
    on_ok_weaker c.put_task.result (λ put past is has.
    let p = c.args.played.now in
    let g = group_of p in
    let t = c.args.task.now.number.0 in
    let table = table-of p past c.args.task.now c.now-clock.result.0 is has (c.now-clock.ensures.at past is.at) in
    let with_requests : IsTableWith g past p.table c.args.task.now c.now-clock.result.0 c.requests.result.now = record { table = table; requests_are = c.requests.ensures past is.at } in
    let row = c.task_row-row.ensures g past with_requests in
    let named : (groups.task g c.task_row-row.result.task.0).name ≡ c.as_slice.result.now =
    ap (λ n. (groups.task g n).name) (task_row-task g t past (task_row_shown c.task_row-row.result) row) ∙ sym (ap (λ (k : Task). k.name) has.task_is) ∙ sym c.as_slice.ensures in
    put g named ∙ ap (λ r. c.args.text.now.items ++ line_of (task_fields g r)) row ∙ ap (λ (tb : Table). c.args.text.now.items ++ task_text tb g past t) (sym c.in-Tasks.is)) c.put_task.ensures
