use Rattle.std.proofs.Common.{◌≡◌, ◌∙◌, length, map, ap, subst, sym, arith}
use Rattle.std.proofs.lemmas.List.{with_items_is}
use Rattle.rt_rules.specs.Distinct.{IsDistinct}
use Rattle.rank_afresh.specs.Standing.{group_of}
use Rattle.chart_rows.specs.Listed.{tasks_listed}
use Rattle.chart_rows.specs.inside.Plays.{played_shown}
use Rattle.chart_rows.specs.Rows.{RowsKept, cpu_finished, played, resv_finished, rows_finished, task_finished}
use Rattle.chart_rows.proofs.rows.Rows.finish.Goals as goal

pub returns : goal.returns
returns c = λ past at.
    let g = group_of c.args.afresh.now in
    let tasks : length c.finish_tasks.new.tasks ≡ c.self.inside.tasks.len = omega (arith, c.finish_tasks.auto.tasks, ap length c.as_mut_slice.ensures.value, c.self.inside.tasks.ok.0) in
    let cpus : length c.finish_cpus.new.cpus ≡ c.self.inside.cpus.len = omega (arith, c.finish_cpus.auto.cpus, ap length c.as_mut_slice-2.ensures.value, c.self.inside.cpus.ok.0) in
    let resvs : length c.finish_resvs.new.resvs ≡ c.self.inside.resvs.len = omega (arith, c.finish_resvs.auto.resvs, ap length c.as_mut_slice-3.ensures.value, c.self.inside.resvs.ok.0) in
    let plays : map played_shown c.as_slice-2.result.now ≡ map (played g past) c.self.inside.cpus.items = ap (map played_shown) c.as_slice-2.ensures.value ∙ c.in_ok-plays.ensures past at ∙ ap (map (played g past)) c.as_slice.ensures.value in
    let once : IsDistinct (tasks_listed c.as_mut_slice.result.now) =
    subst IsDistinct (sym (ap tasks_listed c.as_mut_slice.ensures.value ∙ ap (λ (v : RowsKept). tasks_listed v.tasks) c.self.view_is)) c.requires.listed.once in
    (λ i. record {
      tasks = (with_items_is c.self.inside.tasks c.finish_tasks.new.tasks tasks ∙ c.in_ok-finish_tasks.ensures g once ∙ (λ j. map (task_finished g (plays j)) (c.as_mut_slice.ensures.value j))) i;
      cpus = (with_items_is c.self.inside.cpus c.finish_cpus.new.cpus cpus ∙ c.finish_cpus.ensures past at ∙ ap (map (cpu_finished g past)) c.as_mut_slice-2.ensures.value) i;
      resvs = (with_items_is c.self.inside.resvs c.finish_resvs.new.resvs resvs ∙ c.finish_resvs.ensures past at ∙ ap (map (resv_finished g past)) c.as_mut_slice-3.ensures.value) i;
    })
    ∙ ap (rows_finished g past) c.self.view_is
