-- Rows of tasks and of processors, each with one, and of reservations of a group.
use Rattle.std.specs.Prelude.{◌≡◌, ℕ, true, List, map, All}
use Rattle.rt_rules.specs.Distinct.{IsDistinct}
use Rattle.rt_rules.specs.Numbers.{has}
use Rattle.rt_model.specs.Group.{Group, tasks}
use Rattle.rt_plays.specs.Homes.{IsProcessorOf}
use Rattle.chart_texts.specs.Charts.{group_resvs}
use Rattle.chart_rows.specs.Rows.{CpuKept, ResvKept, RowsKept, TaskKept}

abbrev pub tasks_listed : List TaskKept → List ℕ
tasks_listed ks = map (λ (k : TaskKept). k.task) ks

abbrev pub cpus_listed : List CpuKept → List ℕ
cpus_listed ks = map (λ (k : CpuKept). k.cpu) ks

pub record AreListed (g : Group) (v : RowsKept) : Type 0 where
  pub tasks_are : All (λ (k : TaskKept). has k.task (tasks g) ≡ true) v.tasks
  pub once : IsDistinct (tasks_listed v.tasks)
  pub cpus_are : All (λ (k : CpuKept). IsProcessorOf g k.cpu) v.cpus
  pub cpus_once : IsDistinct (cpus_listed v.cpus)
  pub resvs_are : All (λ (k : ResvKept). has k.resv (group_resvs g) ≡ true) v.resvs
