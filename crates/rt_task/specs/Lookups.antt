-- What numbers in a set stand for.
use Rattle.std.specs.Prelude.{ℕ, suc, ◌-◌, Bool, false, nat_lt, List, [], ◌∷◌, sum_by, if◌then◌else◌, slice_get, unwrap_or, option_map}
use Rattle.rt_task.specs.declared.Sem.{Sem}
use Rattle.rt_task.specs.declared.draft.Draft.{Draft}
use Rattle.rt_task.specs.declared.draft.DraftCluster.{DraftCluster}
use Rattle.rt_task.specs.declared.draft.DraftResv.{DraftResv}
use Rattle.rt_task.specs.declared.draft.DraftTask.{DraftTask}
use Rattle.rt_task.specs.RuleWords.{is_stacked, is_fmlp}

-- the cluster of a processor, which are numbered through the clusters in order
abbrev pub cluster_among : List DraftCluster → ℕ → ℕ
cluster_among [] q = 0
cluster_among (k ∷ ks) q = if nat_lt q k.cpus then 0 else suc (cluster_among ks (q - k.cpus))

module _ (d : Draft) where
  unfoldable pub cpus : ℕ
  cpus = sum_by (λ (c : DraftCluster). c.cpus) d.clusters

  unfoldable pub group_of : ℕ → ℕ
  group_of c = unwrap_or (option_map (λ (k : DraftCluster). k.group) (slice_get d.clusters c)) 0

  unfoldable pub cluster_with : ℕ → ℕ
  cluster_with q = cluster_among d.clusters q

  unfoldable pub is_stacked_sem : ℕ → Bool
  is_stacked_sem s = unwrap_or (option_map (λ (x : Sem). is_stacked x.protocol) (slice_get d.sems (s - 1))) false

  unfoldable pub is_fmlp_sem : ℕ → Bool
  is_fmlp_sem s = unwrap_or (option_map (λ (x : Sem). is_fmlp x.protocol) (slice_get d.sems (s - 1))) false

  unfoldable pub cluster_of_task : ℕ → ℕ
  cluster_of_task t = unwrap_or (option_map (λ (p : DraftTask). p.cluster) (slice_get d.tasks (t - 1))) 0

  unfoldable pub cluster_of_resv : ℕ → ℕ
  cluster_of_resv r = unwrap_or (option_map (λ (x : DraftResv). x.cluster) (slice_get d.resvs (r - 1))) 0
