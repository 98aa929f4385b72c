-- The text of a state of a group: its clock, clusters, semaphores, reservations and tasks, each of these by number.
use Rattle.std.specs.Prelude.{ℕ, List, [], ◌∷◌, ◌++◌, flat_map, codes, decimal}
use Rattle.rt_model.specs.Group.{Group, clusters, tasks}
use Rattle.rt_model.specs.Past.{Past, now}
use Rattle.chart_texts.specs.Charts.{group_resvs}
use Rattle.why_texts.specs.Pieces.{state_line}
use Rattle.why_texts.specs.ClusterLines.{cluster_lines}
use Rattle.why_texts.specs.SemLines.{declared_sems, sem_line}
use Rattle.why_texts.specs.ResvLines.{resv_line}
use Rattle.why_texts.specs.TaskLines.{task_line}

module _ (g : Group) where
  unfoldable pub state_text : Past → List ℕ
  state_text past =
      state_line (codes "clock " ∷ decimal (now past) ∷ [])
      ++ (flat_map (λ c. cluster_lines g c past) (clusters g)
      ++ (flat_map (λ s. sem_line g s past) (declared_sems g)
      ++ (flat_map (λ r. resv_line g r past) (group_resvs g)
      ++ flat_map (λ t. task_line g t past) (tasks g))))
