-- What stands under which plugin, and which tasks may share what.
use Rattle.std.specs.List.{list_all, list_any}
use Rattle.std.specs.Prelude.{ℕ, ◌+◌, Bool, true, false, not, ◌&&◌, ◌||◌, ◌==◌, List, length, map, filter, Option, None, Some}
use Rattle.std.specs.Prelude.{if◌then◌else◌}
use Rattle.rt_base.specs.declared.ResvNo.{ResvNo}
use Rattle.rt_base.specs.declared.SemNo.{SemNo}
use Rattle.rt_task.specs.declared.Act.{Act}
use Rattle.rt_task.specs.declared.Protocol.{Protocol}
use Rattle.rt_task.specs.declared.Protocol.TheVariants.{Srp}
use Rattle.rt_task.specs.declared.Sem.{Sem}
use Rattle.rt_task.specs.declared.draft.Draft.{Draft}
use Rattle.rt_task.specs.declared.draft.DraftResv.{DraftResv}
use Rattle.rt_task.specs.declared.draft.DraftStep.{DraftStep}
use Rattle.rt_task.specs.declared.draft.DraftTask.{DraftTask}
use Rattle.rt_task.specs.Bodies.{at_release, goes_on}
use Rattle.rt_task.specs.Lookups.{group_of, cluster_with, is_stacked_sem, is_fmlp_sem, cluster_of_task, cluster_of_resv}
use Rattle.rt_task.specs.RuleWords.{is_empty, has, all_same, first_of, is_p_res, stands_under, is_of_one_cluster, is_periodic, sem_numbers}
use Rattle.rt_task.specs.SlotRules.{fit_together}
use Rattle.rt_task.specs.declared.Act.TheVariants as acts

module _ (d : Draft) where
  -- the clusters of the tasks that declare a semaphore
  unfoldable pub clusters_sharing : ℕ → List ℕ
  clusters_sharing s = map (λ (p : DraftTask). p.cluster) (filter (λ p. has s (sem_numbers p)) d.tasks)

  -- whether a task of a cluster declares an FMLP semaphore
  unfoldable pub has_fmlp_users : ℕ → Bool
  has_fmlp_users c = list_any (λ (p : DraftTask). p.cluster == c && list_any (λ (s : SemNo). is_fmlp_sem d s.0) p.uses) d.tasks

  -- SRP and FMLP do not stand in one cluster; this is a semaphore and the cluster of its users
  abbrev pub stands_apart : Protocol → Option ℕ → Bool
  stands_apart Srp (Some c) = not (has_fmlp_users c)
  stands_apart _ _ = true

  unfoldable pub sem_sharing : List Sem → Sem → Bool
  sem_sharing earlier s =
      let sharing = clusters_sharing (length earlier + 1) in
      stands_under s.protocol d.plugin
      && ((if is_of_one_cluster s.protocol d.plugin then all_same sharing else all_same (map (group_of d) sharing))
      && stands_apart s.protocol (first_of sharing))

  unfoldable pub resv_sharing : List DraftResv → DraftResv → Bool
  resv_sharing earlier r = is_p_res d.plugin && list_all (λ q. fit_together q r) earlier

  abbrev pub resv_fits : Bool → ℕ → Option ResvNo → Bool
  resv_fits true c None = false
  resv_fits true c (Some r) = cluster_of_resv d r.0 == c
  resv_fits false c None = true
  resv_fits false c (Some r) = false

  unfoldable pub task_sharing : List DraftTask → DraftTask → Bool
  task_sharing earlier p =
      resv_fits (is_p_res d.plugin) p.cluster p.resv
      && ((is_empty p.pieces || goes_on (sem_numbers p) (is_stacked_sem d) p.pieces (Some at_release))
      && (not p.early || is_periodic p.kind))

  abbrev pub act_is_in_group : ℕ → Act → Bool
  act_is_in_group q (acts.Arrive t) = group_of d (cluster_of_task d t.0) == group_of d (cluster_with d q)
  act_is_in_group q _ = true

  unfoldable pub step_sharing : List DraftStep → DraftStep → Bool
  step_sharing earlier s = act_is_in_group s.cpu s.act
