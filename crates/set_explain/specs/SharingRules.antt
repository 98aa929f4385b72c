-- The rules on what stands under which plugin and on what tasks share, test by test.
use Rattle.std.specs.List.{list_all}
use Rattle.std.specs.Prelude.{ℕ, ◌+◌, Bool, not, ◌||◌, List, [], ◌∷◌, length, map, Some, codes, if◌then◌else◌}
use Rattle.rt_task.specs.declared.Sem.{Sem}
use Rattle.rt_task.specs.declared.draft.Draft.{Draft}
use Rattle.rt_task.specs.declared.draft.DraftResv.{DraftResv}
use Rattle.rt_task.specs.declared.draft.DraftStep.{DraftStep}
use Rattle.rt_task.specs.declared.draft.DraftTask.{DraftTask}
use Rattle.rt_task.specs.Bodies.{at_release, goes_on}
use Rattle.rt_task.specs.Lookups.{group_of, is_stacked_sem}
use Rattle.rt_task.specs.RuleWords.{is_empty, all_same, first_of, is_p_res, stands_under, is_of_one_cluster, is_periodic, sem_numbers}
use Rattle.rt_task.specs.SharingRules.{clusters_sharing, stands_apart, resv_fits, act_is_in_group}
use Rattle.rt_task.specs.SlotRules.{fit_together}
use Rattle.set_explain.specs.Rules.{Test, test}

module _ (d : Draft) where
  -- a semaphore by its number, from 1
  abbrev pub sem_sharing : ℕ → Sem → List Test
  sem_sharing n s =
      let sharing = clusters_sharing d n in
      test (stands_under s.protocol d.plugin) (codes "protocol")
      (codes "OMLP under GSN-EDF and C-EDF, PCP and MPCP under P-FP, SRP under PSN-EDF, FMLP under all but P-RES")
      ∷ test (if is_of_one_cluster s.protocol d.plugin then all_same sharing else all_same (map (group_of d) sharing)) (codes "users")
      (codes "all in one group, and in one cluster under OMLP, PCP and SRP, and under FMLP with GSN-EDF and C-EDF")
      ∷ test (stands_apart d s.protocol (first_of sharing)) (codes "users")
      (codes "no task of their cluster declares a semaphore under FMLP beside SRP")
      ∷ []

  abbrev pub resv_sharing : List DraftResv → DraftResv → List Test
  resv_sharing earlier r =
      test (is_p_res d.plugin) (codes "plugin") (codes "P-RES has reservations, no other plugin")
      ∷ test (list_all (λ q. fit_together q r) earlier) (codes "kind")
      (codes "in a cluster all are tables, of one period and with no tick in common, or none is")
      ∷ []

  abbrev pub task_sharing : DraftTask → List Test
  task_sharing p =
      test (resv_fits d (is_p_res d.plugin) p.cluster p.resv) (codes "resv")
      (codes "under P-RES a reservation of the task's cluster, under other plugins none")
      ∷ test (is_empty p.pieces || goes_on (sem_numbers p) (is_stacked_sem d) p.pieces (Some at_release)) (codes "body")
      (codes "well formed: what is locked is in uses and given back, the last first under PCP and SRP, which alone nest; lock, sleep and end stand outside npon and npoff, sleep and end hold nothing; end stands once, as the last")
      ∷ test (not p.early || is_periodic p.kind) (codes "early") (codes "true for periodic tasks alone")
      ∷ []

  abbrev pub step_sharing : DraftStep → List Test
  step_sharing s =
      test (act_is_in_group d s.cpu s.act) (codes "processor") (codes "an arrival is at a processor of its task's group")
      ∷ []
