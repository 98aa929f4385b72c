-- The rules on numbers, test by test.
use Rattle.std.specs.List.{list_all}
use Rattle.std.specs.Prelude.{Bool, not, ◌||◌, ◌==◌, nat_lt, List, [], ◌∷◌, length, codes}
use Rattle.rt_base.specs.declared.TheConstants.{MOST_CPUS, TICK_END}
use Rattle.rt_task.specs.declared.draft.Draft.{Draft}
use Rattle.rt_task.specs.declared.draft.DraftCluster.{DraftCluster}
use Rattle.rt_task.specs.declared.draft.DraftResv.{DraftResv}
use Rattle.rt_task.specs.declared.draft.DraftStep.{DraftStep}
use Rattle.rt_task.specs.declared.draft.DraftTask.{DraftTask}
use Rattle.rt_task.specs.Lookups.{cpus}
use Rattle.rt_task.specs.RangeRules.{group_follows, horizon_in_range}
use Rattle.rt_task.specs.RuleWords.{within, is_span, is_prio, is_partitioned, allows_clusters, piece_in_range, act_in_range}
use Rattle.rt_task.specs.SlotRules.{slots_in_range}
use Rattle.set_explain.specs.Rules.{Test, test}
use Rattle.set_explain.specs.Words.{a_cluster, a_prio, a_span}

module _ (d : Draft) where
  abbrev pub whole_range : List Test
  whole_range =
      test (allows_clusters d.plugin (length d.clusters)) (codes "clusters") (codes "one under GSN-EDF, one or more under other plugins")
      ∷ test (horizon_in_range d.drive) (codes "horizon") (codes "1 tick or more")
      ∷ []

  abbrev pub cluster_range : List DraftCluster → DraftCluster → List Test
  cluster_range earlier c =
      test (within 1 MOST_CPUS c.cpus) (codes "cpus") (codes "from 1 to 64")
      ∷ test (not (is_partitioned d.plugin) || c.cpus == 1) (codes "cpus") (codes "1 under PSN-EDF, P-FP and P-RES")
      ∷ test (group_follows earlier c.group) (codes "group") (codes "0 for the first cluster, then at most one more than any before")
      ∷ []

  abbrev pub resv_range : DraftResv → List Test
  resv_range r =
      test (is_span r.period) (codes "period") a_span
      ∷ test (within 1 r.period r.budget) (codes "budget") (codes "from 1 tick to the period")
      ∷ test (is_prio r.prio) (codes "prio") a_prio
      ∷ test (nat_lt r.cluster (length d.clusters)) (codes "cluster") a_cluster
      ∷ test (slots_in_range r.kind r.period r.budget r.slots) (codes "slots")
      (codes "1 to 64 of them, in order and apart, each with a tick and within the period; the budget is their ticks together")
      ∷ []

  abbrev pub task_range : DraftTask → List Test
  task_range p =
      test (is_span p.cost) (codes "cost") a_span
      ∷ test (is_span p.period) (codes "period") a_span
      ∷ test (is_span p.rel_deadline) (codes "deadline") a_span
      ∷ test (nat_lt p.phase TICK_END) (codes "phase") (codes "from 0 to 999999999999 ticks")
      ∷ test (is_prio p.prio) (codes "prio") a_prio
      ∷ test (nat_lt p.cluster (length d.clusters)) (codes "cluster") a_cluster
      ∷ test (list_all piece_in_range p.pieces) (codes "body") (codes "work is of 1 to 1000 units, sleep of 1 to 999999999999 ticks")
      ∷ []

  abbrev pub step_range : DraftStep → List Test
  step_range s =
      test (nat_lt s.cpu (cpus d)) (codes "processor") (codes "the number of a processor; the first is 0")
      ∷ test (nat_lt s.tick TICK_END) (codes "tick") (codes "from 0 to 999999999999")
      ∷ test (act_in_range s.act) (codes "sleep") a_span
      ∷ []
