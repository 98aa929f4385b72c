use Rattle.std.proofs.Common.{◌≡◌, ◌∙◌, ◌+◌, ◌++◌, sym, ap, arith}
use Rattle.rt_model.specs.Group as groups
use Rattle.rt_task.specs.declared.Task.{Task}
use Rattle.trace_views.specs.JobRows.{listed}
use Rattle.job_facts.proofs.Few.{listed-few}
use Rattle.job_views.specs.RowsShown.{row_shown}
use Rattle.job_views.specs.Tables.{IsTableWith}
use Rattle.job_views.proofs.Lines.{line-of}
use Rattle.view_tables.specs.inside.Playing.{group_of}
use Rattle.view_tables.proofs.GroupTexts.{jobs-all, jobs-next, row-task, table-of}
use Rattle.view_tables.proofs.tables.put_jobs.Goals as goal

pub listed-i-end-requires : goal.listed-i-end-requires
listed-i-end-requires c = (
  group_of c.args.played.now,
  c.requires.0,
  table-of c.args.played.now c.requires.0 c.args.task.now c.now-clock.result.0 c.requires.1 c.requires.2 (c.now-clock.ensures.at c.requires.0 c.requires.1.at),
)

pub row-row-requires : goal.row-row-requires
row-row-requires c =
    let p = c.args.played.now in
    let g = group_of p in
    let past = c.requires.0 in
    let table = table-of p past c.args.task.now c.now-clock.result.0 c.requires.1 c.requires.2 (c.now-clock.ensures.at past c.requires.1.at) in
    let with_requests : IsTableWith g past p.table c.args.task.now c.now-clock.result.0 c.requests.result.now = record { table = table; requests_are = c.requests.ensures past c.requires.1.at } in
    let listed_is = c.listed-i-end.ensures g past table in
    (g, past, line-of g past p.table c.args.task.now c.now-clock.result.0 c.requests.result.now with_requests (c.loop-i.i + 1) (omega arith) (omega (arith, c.loop-i-test.true, listed_is, listed-few g c.args.task.now.number.0 past)))

pub loop-i-preserved : goal.loop-i-preserved
loop-i-preserved c = λ past is has.
    let p = c.args.played.now in
    let g = group_of p in
    let t = c.args.task.now.number.0 in
    let table = table-of p past c.args.task.now c.now-clock.result.0 is has (c.now-clock.ensures.at past is.at) in
    let with_requests : IsTableWith g past p.table c.args.task.now c.now-clock.result.0 c.requests.result.now = record { table = table; requests_are = c.requests.ensures past is.at } in
    let listed_is = c.listed-i-end.ensures g past table in
    let row = c.row-row.ensures g past (line-of g past p.table c.args.task.now c.now-clock.result.0 c.requests.result.now with_requests (c.loop-i.i + 1) (omega arith) (omega (arith, c.loop-i-test.true, listed_is, listed-few g t past))) in
    let named : (groups.task g c.row-row.result.task.0).name ≡ c.as_slice.result.now =
    ap (λ n. (groups.task g n).name) (row-task g t (c.loop-i.i + 1) past (row_shown c.row-row.result) row) ∙ sym (ap (λ (k : Task). k.name) has.task_is) ∙ sym c.as_slice.ensures in
    jobs-next g t c.loop-i.i past (row_shown c.row-row.result) c.args.text.now.items c.loop-i.text.items c.put_job.new.text.items row (c.loop-i.invariant past is has) (c.in_ok-put_job.ensures g named)

pub returns : goal.returns
returns c = λ past is has.
    let p = c.args.played.now in
    let g = group_of p in
    let t = c.args.task.now.number.0 in
    let all : c.listed-i-end.result ≡ listed g t past = c.listed-i-end.ensures g past (table-of p past c.args.task.now c.now-clock.result.0 is has (c.now-clock.ensures.at past is.at)) in
    c.loop-i.invariant past is has ∙ ap (λ xs. c.args.text.now.items ++ xs) (jobs-all g t past c.loop-i.i (omega (arith, all, c.loop-i-test.false, c.loop-i.auto.i-end)))
