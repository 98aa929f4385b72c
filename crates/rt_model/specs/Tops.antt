-- The top of a cluster: its highest-priority eligible jobs, as many as it has processors.
use Rattle.std.specs.Prelude.{ℕ, Bool, not, ◌&&◌, ◌||◌, List, is_none, nat_lt, true, map, filter, take}
use Rattle.rt_task.specs.declared.PluginKind.{PluginKind}
use Rattle.rt_task.specs.declared.PluginKind.TheVariants as plugins
use Rattle.rt_rules.specs.Keys.{Ranked, sorted}
use Rattle.rt_rules.specs.Numbers.{is}
use Rattle.rt_model.specs.EffectiveKeys.{effective_key}
use Rattle.rt_model.specs.Group.{Group, cpus, home, tasks_of, served_by}
use Rattle.rt_model.specs.Holders.{awaits}
use Rattle.rt_model.specs.Past.{Past}
use Rattle.rt_model.specs.Releases.{ready}
use Rattle.rt_model.specs.Reservations.{front, left}
use Rattle.rt_model.specs.StackPolicy.{has_srp, passes_srp}
use Rattle.rt_model.specs.UnderWay.{under_way}

module _ (g : Group) where
  -- under P-RES a reservation serves the first of its ready clients, as long as it has budget
  unfoldable pub is_served : PluginKind → ℕ → Past → Bool
  is_served plugins.PRes t past = nat_lt 0 (left g (served_by g t) past) && is t (front g (served_by g t) past)
  is_served _ t past = true

  -- under PSN-EDF, where a task of the cluster declares an SRP semaphore, a task is under way or passes their test
  unfoldable pub is_admitted : PluginKind → ℕ → Past → Bool
  is_admitted plugins.PsnEdf t past = not (has_srp g (home g t)) || (under_way t past || passes_srp g t past)
  is_admitted _ t past = true

  -- a task may be linked: its job is there, neither sleeps nor waits, its reservation serves it, and SRP admits it
  unfoldable pub eligible : ℕ → Past → Bool
  eligible t past =
      ready g t past && (is_none (awaits g t past) && (is_served g.setup.plugin t past && is_admitted g.setup.plugin t past))

  -- the eligible tasks of a cluster by effective key and then by number
  unfoldable pub ranking : ℕ → Past → List Ranked
  ranking c past = sorted (map (λ t. record { key = effective_key g t past; task = t }) (filter (λ t. eligible t past) (tasks_of g c)))

  unfoldable pub top : ℕ → Past → List ℕ
  top c past = take (cpus g c) (map (λ (r : Ranked). r.task) (ranking c past))
