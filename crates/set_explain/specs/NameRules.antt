-- The rules on names, test by test.
use Rattle.std.specs.List.{list_any, list_all}
use Rattle.std.specs.Prelude.{◌+◌, Bool, not, ◌&&◌, ◌==◌, List, [], ◌∷◌, ◌++◌, length, bytes_eq, codes}
use Rattle.rt_task.specs.declared.Sem.{Sem}
use Rattle.rt_task.specs.declared.draft.Draft.{Draft}
use Rattle.rt_task.specs.declared.draft.DraftResv.{DraftResv}
use Rattle.rt_task.specs.declared.draft.DraftStep.{DraftStep}
use Rattle.rt_task.specs.declared.draft.DraftTask.{DraftTask}
use Rattle.rt_task.specs.NameRules.{act_is_known, piece_is_known, resv_is_known}
use Rattle.rt_task.specs.RuleWords.{is_known, is_name, no_repeat, sem_numbers}
use Rattle.set_explain.specs.Rules.{Test, test}
use Rattle.set_explain.specs.Words.{a_name, a_new_name, declared_sems}

abbrev pub sem_name : List Sem → Sem → List Test
sem_name earlier s =
    test (is_name s.name) (codes "name") a_name
    ∷ test (not (list_any (λ (x : Sem). bytes_eq x.name s.name) earlier)) (codes "name") a_new_name
    ∷ []

abbrev pub resv_name : List DraftResv → DraftResv → List Test
resv_name earlier r =
    test (is_name r.name) (codes "name") a_name
    ∷ test (not (list_any (λ (x : DraftResv). bytes_eq x.name r.name) earlier)) (codes "name") a_new_name
    ∷ []

abbrev pub own_name : List DraftTask → DraftTask → List Test
own_name earlier p =
    test (p.number.0 == length earlier + 1) (codes "number") (codes "its place among the tasks; the first is 1")
    ∷ test (is_name p.name) (codes "name") a_name
    ∷ test (not (list_any (λ (x : DraftTask). bytes_eq x.name p.name) earlier)) (codes "name") a_new_name
    ∷ []

module _ (d : Draft) where
  abbrev pub task_names : DraftTask → List Test
  task_names p =
      test (list_all (is_known d.sems) (sem_numbers p)) (codes "uses") declared_sems
      ∷ test (no_repeat (sem_numbers p)) (codes "uses") (codes "no semaphore stands twice")
      ∷ test (resv_is_known d p.resv) (codes "resv") (codes "a reservation that is declared in resvs")
      ∷ test (list_all (piece_is_known d) p.pieces) (codes "body") declared_sems
      ∷ []

  -- the name of a task, and the names that it uses
  abbrev pub task_name : List DraftTask → DraftTask → List Test
  task_name earlier p = own_name earlier p ++ task_names p

  abbrev pub step_name : DraftStep → List Test
  step_name s =
      test (act_is_known d s.act) (codes "act") (codes "the task or semaphore that it names is declared")
      ∷ []
