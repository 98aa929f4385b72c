-- The rows that a panel is made of.
use Rattle.std.proofs.Common.{◌≡◌, ◌∙◌, ℕ, ◌-◌, ◌<◌, List, map, refl, sym, ap, subst, arith, All, length, true}
use Rattle.std.proofs.lemmas.Simd.{map-map}
use Rattle.rt_task.specs.Validity.{IsValid}
use Rattle.rt_task.specs.declared.Task.{Task}
use Rattle.rt_rules.specs.Numbers.{has}
use Rattle.rt_model.specs.Group.{Group, group_processors, task, tasks}
use Rattle.rt_model.specs.Past.{Past}
use Rattle.rt_plays.proofs.AtHomeLaws.{tasks_are_at_home}
use Rattle.rt_plays.proofs.SetLimits.{sets_are_in_limits}
use Rattle.trace_views.specs.Columns.{Column}
use Rattle.job_facts.proofs.Periods.{period-positive}
use Rattle.chart_texts.specs.declared.window.Axis.{Axis}
use Rattle.chart_texts.specs.declared.window.Window.{Window}
use Rattle.chart_texts.specs.Charts.{CpuRow, ResvRow, TaskRow, cpu_row_in, group_resvs, resv_row_in, task_row_in}
use Rattle.chart_texts.specs.Windows.{columns_in}
use Rattle.chart_rows.specs.Rows.{CpuKept, ResvKept, RowsKept, TaskKept, cpu_kept, resv_kept, rows_of, task_kept}
use Rattle.chart_rows.specs.Strips.{Strip, blank, strip_of}
use Rattle.chart_feed.specs.Clocks.{ClocksKept}
use Rattle.chart_feed.specs.inside.Marked.{edges_shown}
use Rattle.chart_feed.specs.inside.Panels.{CanShow, IsCpuRow, IsResvRow, IsTaskRow}
use Rattle.chart_feed.specs.declared.times.Edges.{Edges}
use Rattle.chart_feed.specs.declared.window_columns.Columns.{Columns}
use Rattle.chart_feed.proofs.Edges.{are-timed}
use Rattle.chart_feed.proofs.Paneled.{all-made}

module _ (g : Group) (axis : Axis) (w : Window) (past : Past) (clock : ℕ) (c : Columns) (rows : RowsKept) (ks : List ClocksKept) (shown : CanShow g axis w past clock c rows ks) where
  abbrev cs : List Column
  cs = columns_in axis w past

  abbrev over : List Strip
  over = map strip_of cs

  abbrev IsRow : TaskKept → Type 0
  IsRow = IsTaskRow g past cs g.setup.tasks ks clock (map edges_shown c.edges.items)

  task-shown : (valid : IsValid g.setup) (t : ℕ) → has t (tasks g) ≡ true → IsRow (task_kept g over blank t)
  unfolding task
  task-shown valid t h =
      let home = tasks_are_at_home g t valid h in
      let low : t - 1 < length g.setup.tasks = omega (arith, home.low, home.high) in
      let there : t < length ks = omega (arith, home.high, shown.tasks_there) in
      let positive = period-positive g.setup valid (t - 1) low in
      record {
        from_one = home.low;
        within = home.high;
        kept = there;
        deadline = ((sets_are_in_limits g.setup valid).tasks_in (t - 1) low).deadline_low;
        finished = record {
          row_is = refl;
          task_is = refl;
          period = positive;
          clocks_are = shown.clocks_are t there;
          clock_is = shown.clock_is;
          edges_are = shown.columns_are.edges_are;
          timed = are-timed axis g t past positive w shown.whole;
        };
      }

  pub tasks-shown : IsValid g.setup → All IsRow rows.tasks
  unfolding rows_of
  tasks-shown valid = subst (λ (v : RowsKept). All IsRow v.tasks) (sym shown.rows_are) (all-made IsRow (task_kept g over blank) (tasks g) (task-shown valid))

  pub cpus-shown : All (IsCpuRow g cs) rows.cpus
  unfolding rows_of
  cpus-shown = subst (λ (v : RowsKept). All (IsCpuRow g cs) v.cpus) (sym shown.rows_are) (all-made (IsCpuRow g cs) (cpu_kept g over blank) (group_processors g) (λ q h. refl))

  pub resvs-shown : All (IsResvRow g cs) rows.resvs
  unfolding rows_of
  resvs-shown = subst (λ (v : RowsKept). All (IsResvRow g cs) v.resvs) (sym shown.rows_are) (all-made (IsResvRow g cs) (resv_kept g over blank) (group_resvs g) (λ r h. refl))

  -- each is the row of its number
  pub task-rows : map (λ (k : TaskKept). task_row_in g past cs k.task) rows.tasks ≡ map (task_row_in g past cs) (tasks g)
  unfolding rows_of
  task-rows = let f : TaskKept → TaskRow = λ k. task_row_in g past cs k.task in ap (λ (v : RowsKept). map f v.tasks) shown.rows_are ∙ map-map f (task_kept g over blank) (tasks g)

  pub cpu-rows : map (λ (k : CpuKept). cpu_row_in g cs k.cpu) rows.cpus ≡ map (cpu_row_in g cs) (group_processors g)
  unfolding rows_of
  cpu-rows = let f : CpuKept → CpuRow = λ k. cpu_row_in g cs k.cpu in ap (λ (v : RowsKept). map f v.cpus) shown.rows_are ∙ map-map f (cpu_kept g over blank) (group_processors g)

  pub resv-rows : map (λ (k : ResvKept). resv_row_in g cs k.resv) rows.resvs ≡ map (resv_row_in g cs) (group_resvs g)
  unfolding rows_of
  resv-rows = let f : ResvKept → ResvRow = λ k. resv_row_in g cs k.resv in ap (λ (v : RowsKept). map f v.resvs) shown.rows_are ∙ map-map f (resv_kept g over blank) (group_resvs g)

-- the rows of equal tasks in equal columns
pub same-rows : (g : Group) (past : Past) (cs : List Column) (ks : List ClocksKept) (clock : ℕ) (ts ts' : List Task) (es es' : List Edges) (rows rows' : List TaskKept) → ts' ≡ ts → es' ≡ es → rows' ≡ rows
    → All (IsTaskRow g past cs ts ks clock (map edges_shown es)) rows → All (IsTaskRow g past cs ts' ks clock (map edges_shown es')) rows'
same-rows g past cs ks clock ts ts' es es' rows rows' tasks edges kept h =
    let P : List Task × List Edges × List TaskKept → Type 0 = λ x. All (IsTaskRow g past cs x.0 ks clock (map edges_shown x.1)) x.2 in
    subst P (λ i. (sym tasks i, sym edges i, sym kept i)) h
