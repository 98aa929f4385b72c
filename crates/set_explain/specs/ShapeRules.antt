-- The rules on forms, test by test.
use Rattle.std.specs.Prelude.{Bool, false, not, ◌&&◌, ◌||◌, List, [], ◌∷◌, ◌++◌, Option, None, Some, codes, is_some, unwrap_or}
use Rattle.rt_task.specs.declared.Kind.TheVariants.{Periodic}
use Rattle.rt_task.specs.declared.ResvKind.{ResvKind}
use Rattle.rt_task.specs.RuleWords.{is_empty, is_periodic}
use Rattle.serde_json.specs.Data.{Data}
use Rattle.serde_json.specs.Find.{get}
use Rattle.set_read.specs.Document.{Names, piece_form, play_of, plugins, protocols, release_kinds, reservation_kinds, reservation_members}
use Rattle.set_read.specs.Document.{resv_form, sem_form, slots_form, step_form, task_members, whole_members}
use Rattle.set_read.specs.Forms.{natural, text, truth, one_of, or_null, items, list_of, object_of, optional, required}
use Rattle.set_explain.specs.Rules.{Test, test}
use Rattle.set_explain.specs.Words.{a_number, a_text, an_array, true_or_false}

abbrev pub whole_shape : Data → List Test
whole_shape d =
    test (is_some (object_of whole_members d)) (codes "members")
    (codes "an object with plugin, clusters, sems, resvs, tasks, steps and horizon alone")
    ∷ test (is_some (required (one_of plugins) (codes "plugin") d)) (codes "plugin") (codes "GSN-EDF, C-EDF, PSN-EDF, P-FP or P-RES")
    ∷ test (is_some (required items (codes "clusters") d)) (codes "clusters") an_array
    ∷ test (is_some (optional items [] (codes "sems") d)) (codes "sems") an_array
    ∷ test (is_some (optional items [] (codes "resvs") d)) (codes "resvs") an_array
    ∷ test (is_some (optional items [] (codes "tasks") d)) (codes "tasks") an_array
    ∷ test (is_some (play_of (get (codes "steps") d) (get (codes "horizon") d))) (codes "steps, horizon")
    (codes "one of the two: an array of steps, or a whole number")
    ∷ []

abbrev pub cluster_shape : Data → List Test
cluster_shape d =
    test (is_some (object_of (codes "cpus" ∷ codes "group" ∷ []) d)) (codes "members") (codes "an object with cpus and group alone")
    ∷ test (is_some (required natural (codes "cpus") d)) (codes "cpus") a_number
    ∷ test (is_some (optional natural 0 (codes "group") d)) (codes "group") a_number
    ∷ []

abbrev pub sem_shape : Data → List Test
sem_shape d =
    test (is_some (object_of (codes "name" ∷ codes "protocol" ∷ []) d)) (codes "members") (codes "an object with name and protocol alone")
    ∷ test (is_some (required text (codes "name") d)) (codes "name") a_text
    ∷ test (is_some (required (one_of protocols) (codes "protocol") d)) (codes "protocol") (codes "FMLP, OMLP, PCP, MPCP or SRP")
    ∷ []

abbrev pub has_slots : Option ResvKind → Data → Bool
has_slots None d = false
has_slots (Some kind) d = is_some (slots_form kind d)

abbrev pub resv_shape : Data → List Test
resv_shape d =
    test (is_some (object_of reservation_members d)) (codes "members")
    (codes "an object with name, cluster, kind, budget, period, prio and slots alone")
    ∷ test (is_some (required text (codes "name") d)) (codes "name") a_text
    ∷ test (is_some (optional natural 0 (codes "cluster") d)) (codes "cluster") a_number
    ∷ test (is_some (required (one_of reservation_kinds) (codes "kind") d)) (codes "kind") (codes "polling, sporadic or table")
    ∷ test (is_some (required natural (codes "budget") d)) (codes "budget") a_number
    ∷ test (is_some (required natural (codes "period") d)) (codes "period") a_number
    ∷ test (is_some (optional natural 0 (codes "prio") d)) (codes "prio") a_number
    ∷ test (has_slots (required (one_of reservation_kinds) (codes "kind") d) d) (codes "slots")
    (codes "of a table an array of [from, to]; no other kind has slots")
    ∷ []

abbrev pub task_head : Data → List Test
task_head d =
    test (is_some (object_of task_members d)) (codes "members")
    (codes "an object with name, cluster, cost, period, deadline, phase, kind, prio, enforce, uses, resv, body and early alone")
    ∷ test (is_some (required text (codes "name") d)) (codes "name") a_text
    ∷ test (is_some (optional natural 0 (codes "cluster") d)) (codes "cluster") a_number
    ∷ test (is_some (required natural (codes "cost") d)) (codes "cost") a_number
    ∷ test (is_some (required natural (codes "period") d)) (codes "period") a_number
    ∷ []

abbrev pub task_times : Data → List Test
task_times d =
    test (is_some (optional natural 0 (codes "deadline") d)) (codes "deadline") a_number
    ∷ test (is_some (optional natural 0 (codes "phase") d)) (codes "phase") a_number
    ∷ test (is_some (optional (one_of release_kinds) Periodic (codes "kind") d)) (codes "kind") (codes "periodic or sporadic")
    ∷ test (is_some (optional natural 0 (codes "prio") d)) (codes "prio") a_number
    ∷ test (is_some (optional truth false (codes "enforce") d)) (codes "enforce") true_or_false
    ∷ []

module _ (names : Names) where
  -- a task that is read again at each horizon: whether it is periodic and has a body
  abbrev pub is_played : Data → Bool
  is_played d =
      is_periodic (unwrap_or (optional (one_of release_kinds) Periodic (codes "kind") d) Periodic)
      && not (is_empty (unwrap_or (optional (list_of (piece_form names)) [] (codes "body") d) []))

  abbrev pub task_parts : Bool → Data → List Test
  task_parts needs d =
      test (is_some (optional (list_of (sem_form names)) [] (codes "uses") d)) (codes "uses") (codes "an array of names")
      ∷ test (is_some (optional (or_null (resv_form names)) None (codes "resv") d)) (codes "resv") (codes "a name, or null")
      ∷ test (is_some (optional (list_of (piece_form names)) [] (codes "body") d)) (codes "body")
      (codes "an array of [\"work\", n], [\"lock\", name], [\"unlock\", name], [\"sleep\", n], [\"npon\"], [\"npoff\"] and [\"end\"]")
      ∷ test (is_some (optional truth false (codes "early") d)) (codes "early") true_or_false
      ∷ test (not needs || is_played d) (codes "kind, body") (codes "in a set with a horizon a task is periodic and has a body")
      ∷ []

  -- the tests of a task, in the order of its members
  abbrev pub task_shape : Bool → Data → List Test
  task_shape needs d = task_head d ++ (task_times d ++ task_parts needs d)

  abbrev pub step_shape : Data → List Test
  step_shape d =
      test (is_some (step_form names d)) (codes "step")
      (codes "an array of a processor, a tick, the word of an act, and what that needs")
      ∷ []
