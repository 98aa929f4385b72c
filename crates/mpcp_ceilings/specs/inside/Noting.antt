-- How a task's priority number is noted with the semaphores that it declares, for the private functions.
use Rattle.std.specs.Prelude.{ℕ, ◌+◌, ◌<◌, ◌==◌, min, nat_lt, List, [], ◌∷◌, All, length, Option, None, Some, if◌then◌else◌}
use Rattle.std.specs.Prelude.{slice_index_or, slice_set}
use Rattle.rt_base.specs.declared.ClusterNo.{ClusterNo}
use Rattle.rt_base.specs.declared.SemNo.{SemNo}
use Rattle.rt_task.specs.declared.Parts.{Parts}
use Rattle.rt_task.specs.declared.Task.{Task}
use Rattle.rt_model.specs.Group.{no_task}
use Rattle.mpcp_ceilings.specs.declared.user_prios.UserPrios.{UserPrios}

-- the smaller of two numbers, where the second may be missing
abbrev pub lowered : ℕ → Option ℕ → ℕ
lowered p None = p
lowered p (Some q) = min p q

-- what is kept of the users, with one more of this priority number in this cluster
abbrev pub with_user : ℕ → ClusterNo → Option UserPrios → UserPrios
with_user p c None = record { smallest = p; cluster = c; elsewhere = None }
with_user p c (Some u) =
    if u.cluster.0 == c.0 then record u { smallest = min p u.smallest }
    else (if nat_lt p u.smallest then record { smallest = p; cluster = c; elsewhere = Some u.smallest }
    else record u { elsewhere = Some (lowered p u.elsewhere) })

-- the rows, with one more user of each of these semaphores
abbrev pub noted_uses : ℕ → ClusterNo → List SemNo → List (Option UserPrios) → List (Option UserPrios)
noted_uses p c [] rows = rows
noted_uses p c (s ∷ ss) rows = noted_uses p c ss (slice_set rows s.0 (Some (with_user p c (slice_index_or rows s.0 None))))

-- each semaphore has its row
abbrev pub HaveRows : List SemNo → ℕ → Type 0
HaveRows ss count = All (λ (s : SemNo). s.0 < count) ss

-- the clusters of tasks are there, and the semaphores that they declare
pub record AreKnown (p : Parts) : Type 0 where
  pub homes : (i : ℕ) → i < length p.tasks → (slice_index_or p.tasks i no_task).cluster.0 < length p.clusters
  pub uses : (i : ℕ) → i < length p.tasks → HaveRows (slice_index_or p.tasks i no_task).uses (length p.sems + 1)
