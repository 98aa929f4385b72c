-- MPCP's ceilings (Rajkumar, ICDCS 1990), told from two priority numbers of each semaphore.
use Rattle.std.specs.Prelude.{◌≡◌, ℕ, ◌+◌, ◌-◌, ◌==◌, true, not, nat_lt, List, length, map, filter, Option, None, Some, if◌then◌else◌}
use Rattle.std.specs.Prelude.{slice_index_or, unwrap_or}
use Rattle.rt_task.specs.declared.Parts.{Parts}
use Rattle.rt_rules.specs.Numbers.{foremost, has}
use Rattle.rt_model.specs.Group.{Group, home, no_task, sems, task, users}
use Rattle.rt_model.specs.Boosts.{mpcp_ceiling}
use Rattle.mpcp_ceilings.specs.declared.user_prios.UserPrios.{UserPrios}

-- at the number of each semaphore what is kept of its users; none where it has no users
pub record CeilingTable : Type 0 where
  pub rows : List (Option UserPrios)

-- the smallest priority number among the users outside a cluster
abbrev pub smallest_outside : ℕ → Option UserPrios → Option ℕ
smallest_outside c None = None
smallest_outside c (Some u) = if u.cluster.0 == c then u.elsewhere else Some u.smallest

-- the ceiling of semaphore s for task t
abbrev pub ceiling_in : Parts → CeilingTable → ℕ → ℕ → ℕ
ceiling_in p c s t =
    let row = slice_index_or p.tasks (t - 1) no_task in
    unwrap_or (smallest_outside row.cluster.0 (slice_index_or c.rows s None)) row.prio

-- the table says of each semaphore and each cluster the smallest priority number among the group's users outside it
pub record AreCeilings (g : Group) (c : CeilingTable) : Type 0 where
  pub count : length c.rows ≡ length g.setup.sems + 1
  pub smallest : (s k : ℕ) → has s (sems g) ≡ true →
      smallest_outside k (slice_index_or c.rows s None)
      ≡ foremost nat_lt (map (λ u. (task g u).prio) (filter (λ u. not (home g u == k)) (users g s)))

-- the ceilings of the table are MPCP's
abbrev pub CeilingsAreTold : Type 0
CeilingsAreTold = (g : Group) (c : CeilingTable) (s t : ℕ) → AreCeilings g c → has s (sems g) ≡ true
    → ceiling_in g.setup c s t ≡ mpcp_ceiling g s t
