-- Numbers in range.
use Rattle.std.specs.List.{list_all}
use Rattle.std.specs.Prelude.{ℕ, ◌+◌, Bool, true, not, ◌&&◌, ◌||◌, ◌==◌, nat_lt, nat_le, List, [], ◌∷◌, length, map}
use Rattle.rt_base.specs.declared.TheConstants.{MOST_CPUS, TICK_END}
use Rattle.rt_task.specs.declared.draft.Draft.{Draft}
use Rattle.rt_task.specs.declared.draft.DraftCluster.{DraftCluster}
use Rattle.rt_task.specs.declared.draft.DraftDrive.{DraftDrive}
use Rattle.rt_task.specs.declared.draft.DraftDrive.TheVariants.{Steps, Horizon}
use Rattle.rt_task.specs.declared.draft.DraftResv.{DraftResv}
use Rattle.rt_task.specs.declared.draft.DraftStep.{DraftStep}
use Rattle.rt_task.specs.declared.draft.DraftTask.{DraftTask}
use Rattle.rt_task.specs.Lookups.{cpus}
use Rattle.rt_task.specs.SlotRules.{slots_in_range}
use Rattle.rt_task.specs.RuleWords.{within, greatest, is_span, is_prio, is_partitioned, allows_clusters, piece_in_range, act_in_range}

-- the greatest group of these clusters
abbrev pub groups_top : List DraftCluster → ℕ
groups_top ks = greatest (map (λ (c : DraftCluster). c.group) ks)

-- the first cluster has group 0, a later one at most one more than the greatest before it
abbrev pub group_follows : List DraftCluster → ℕ → Bool
group_follows [] g = g == 0
group_follows (k ∷ ks) g = nat_le g (groups_top (k ∷ ks) + 1)

abbrev pub horizon_in_range : DraftDrive → Bool
horizon_in_range (Steps s) = true
horizon_in_range (Horizon h) = nat_le 1 h

module _ (d : Draft) where
  unfoldable pub whole_range : Bool
  whole_range = allows_clusters d.plugin (length d.clusters) && horizon_in_range d.drive

  unfoldable pub cluster_range : List DraftCluster → DraftCluster → Bool
  cluster_range earlier c = within 1 MOST_CPUS c.cpus && ((not (is_partitioned d.plugin) || c.cpus == 1) && group_follows earlier c.group)

  unfoldable pub resv_range : List DraftResv → DraftResv → Bool
  resv_range earlier r =
      is_span r.period && (within 1 r.period r.budget && (is_prio r.prio
      && (nat_lt r.cluster (length d.clusters) && slots_in_range r.kind r.period r.budget r.slots)))

  unfoldable pub task_range : List DraftTask → DraftTask → Bool
  task_range earlier p =
      is_span p.cost && (is_span p.period && (is_span p.rel_deadline && (nat_lt p.phase TICK_END && (is_prio p.prio
      && (nat_lt p.cluster (length d.clusters) && list_all piece_in_range p.pieces)))))

  unfoldable pub step_range : List DraftStep → DraftStep → Bool
  step_range earlier s = nat_lt s.cpu (cpus d) && (nat_lt s.tick TICK_END && act_in_range s.act)
