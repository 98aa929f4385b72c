-- The limits of a set, test by test.
use Rattle.std.specs.Prelude.{nat_le, List, [], ◌∷◌, length, codes}
use Rattle.rt_base.specs.declared.TheConstants.{MOST_CLUSTERS, MOST_CPUS, MOST_OPERATIONS, MOST_RESVS, MOST_SEMS, MOST_TASKS}
use Rattle.rt_task.specs.declared.draft.Draft.{Draft}
use Rattle.rt_task.specs.declared.draft.DraftTask.{DraftTask}
use Rattle.rt_task.specs.Lookups.{cpus}
use Rattle.rt_task.specs.RuleWords.{body_len}
use Rattle.rt_task.specs.SizeRules.{horizon_fits}
use Rattle.set_explain.specs.Rules.{Test, test}
use Rattle.set_explain.specs.Words.{at_most_64}

abbrev pub whole_size : Draft → List Test
whole_size d =
    test (nat_le (length d.clusters) MOST_CLUSTERS) (codes "clusters") at_most_64
    ∷ test (nat_le (cpus d) MOST_CPUS) (codes "cpus") (codes "at most 64 in all clusters together")
    ∷ test (nat_le (length d.tasks) MOST_TASKS) (codes "tasks") (codes "at most 1024")
    ∷ test (nat_le (length d.sems) MOST_SEMS) (codes "sems") (codes "at most 256")
    ∷ test (nat_le (length d.resvs) MOST_RESVS) (codes "resvs") at_most_64
    ∷ test (horizon_fits d d.drive) (codes "steps, horizon")
    (codes "at most 1000000 steps; a horizon counts 18 for each processor and tick")
    ∷ []

abbrev pub task_size : DraftTask → List Test
task_size p =
    test (nat_le (body_len p.pieces) MOST_OPERATIONS) (codes "body") (codes "at most 1000 operations, each unit of work counted")
    ∷ []
