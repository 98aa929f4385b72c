use Rattle.std.proofs.Common.{◌≡◌, ◌∙◌, All, List, ap, map, subst, sym}
use Rattle.rt_model.specs.Group.{Group, group_processors, tasks}
use Rattle.trace_views.specs.Columns.{Column}
use Rattle.chart_cells.specs.Charts.{cpu_row_shown, resv_row_shown, task_row_shown}
use Rattle.chart_texts.specs.Charts.{CpuRow, ResvRow, TaskRow, cpu_row_in, group_resvs, panel_of, resv_row_in, task_row_in}
use Rattle.chart_texts.specs.Windows.{columns_in}
use Rattle.chart_rows.specs.Rows.{CpuKept, ResvKept, RowsKept, TaskKept}
use Rattle.chart_feed.specs.inside.Panels.{IsCpuRow, IsResvRow}
use Rattle.chart_feed.proofs.Shown.{cpu-rows, cpus-shown, resv-rows, resvs-shown, same-rows, task-rows, tasks-shown}
use Rattle.chart_feed.proofs.panel.panel_with.Goals as goal

pub finish_tasks-requires-clause-rows : goal.finish_tasks-requires-clause-rows
finish_tasks-requires-clause-rows c =
    let g : Group = record { setup = c.args.parts.now; number = c.args.group.0 } in
    let axis = c.requires.shown.0 in
    let w = c.requires.shown.1 in
    let past = c.requires.shown.2 in
    let ks = c.args.clocks.now in (
      g,
      past,
      columns_in axis w past,
      same-rows g past (columns_in axis w past) ks c.args.now.0 g.setup.tasks c.as_slice-listed.result.now c.args.columns.edges.items c.as_slice-edges.result.now c.args.rows.tasks c.rows.inside.tasks.items
          c.as_slice-listed.ensures c.as_slice-edges.ensures.value (ap (λ (v : RowsKept). v.tasks) c.rows.view_is)
          (tasks-shown g axis w past c.args.now.0 c.args.columns c.args.rows ks c.requires.shown.3 c.requires.valid),
    )

pub returns : goal.returns
unfolding panel_of
returns c = λ axis w past shown.
    let g : Group = record { setup = c.args.parts.now; number = c.args.group.0 } in
    let cs : List Column = columns_in axis w past in
    let ks = c.args.clocks.now in
    let clock = c.args.now.0 in
    let columns = c.args.columns in
    let rows = c.args.rows in
    let of_task : TaskKept → TaskRow = λ k. task_row_in g past cs k.task in
    let of_cpu : CpuKept → CpuRow = λ k. cpu_row_in g cs k.cpu in
    let of_resv : ResvKept → ResvRow = λ k. resv_row_in g cs k.resv in
    let tasks_are : map task_row_shown c.in_ok-tasks.tasks.items ≡ map (task_row_in g past cs) (tasks g) =
    c.in_ok-tasks.ensures g past cs
    (same-rows g past cs ks clock g.setup.tasks c.as_slice-listed.result.now columns.edges.items c.as_slice-edges.result.now rows.tasks c.rows.inside.tasks.items
    c.as_slice-listed.ensures c.as_slice-edges.ensures.value (ap (λ (v : RowsKept). v.tasks) c.rows.view_is) (tasks-shown g axis w past clock columns rows ks shown c.requires.valid))
    ∙ ap (λ (v : RowsKept). map of_task v.tasks) c.rows.view_is ∙ task-rows g axis w past clock columns rows ks shown in
    let cpus_are : map cpu_row_shown c.in_ok-cpus.cpus.items ≡ map (cpu_row_in g cs) (group_processors g) =
    c.in_ok-cpus.ensures g cs (subst (All (IsCpuRow g cs)) (sym (ap (λ (v : RowsKept). v.cpus) c.rows.view_is)) (cpus-shown g axis w past clock columns rows ks shown))
    ∙ ap (λ (v : RowsKept). map of_cpu v.cpus) c.rows.view_is ∙ cpu-rows g axis w past clock columns rows ks shown in
    let resvs_are : map resv_row_shown c.in_ok-resvs.resvs.items ≡ map (resv_row_in g cs) (group_resvs g) =
    c.in_ok-resvs.ensures g cs (subst (All (IsResvRow g cs)) (sym (ap (λ (v : RowsKept). v.resvs) c.rows.view_is)) (resvs-shown g axis w past clock columns rows ks shown))
    ∙ ap (λ (v : RowsKept). map of_resv v.resvs) c.rows.view_is ∙ resv-rows g axis w past clock columns rows ks shown in
    λ i. record {
      group = g.number;
      labels = shown.columns_are.labels_are i;
      clocks = shown.columns_are.clocks_are i;
      last = shown.clock_is i;
      tasks = tasks_are i;
      cpus = cpus_are i;
      resvs = resvs_are i;
    }
