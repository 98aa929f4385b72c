-- The semaphores of a group as they are at first.
use Rattle.std.specs.Prelude.{◌≡◌, ◌≤◌, ◌<◌, ◌+◌, ℕ, Bool, true, false, ◌&&◌, max, List, [], ◌∷◌, length, map}
use Rattle.std.specs.Prelude.{Option, None, Some, replicate, if◌then◌else◌}
use Rattle.std.specs.List.{list_any}
use Rattle.rt_task.specs.declared.Parts.{Parts}
use Rattle.rt_task.specs.declared.Task.{Task}
use Rattle.rt_task.specs.declared.Protocol.{Protocol}
use Rattle.rt_task.specs.declared.Protocol.TheVariants as protocols
use Rattle.rt_rules.specs.declared.Key.{Key}
use Rattle.rt_rules.specs.KeyOrder.{lowest_key}
use Rattle.rt_rules.specs.Keys.{highest}
use Rattle.rt_rules.specs.Numbers.{is, is_empty, numbers_from}
use Rattle.rt_model.specs.Ceilings.{is_pcp}
use Rattle.rt_model.specs.Group.{Group, task, users, cpus, in_group, protocol, sems}
use Rattle.rt_model.specs.Semaphores.{cluster_of}
use Rattle.rt_model.specs.StackPolicy.{is_srp, srp_ceiling}
use Rattle.pcp_sem.specs.PcpKept.{PcpKept}
use Rattle.srp_sem.specs.SrpKept.{SrpKept}
use Rattle.sem_table.specs.declared.any_sem.AnySem.{AnySem}
use Rattle.sem_table.specs.declared.any_sem.AnySem.TheVariants as any
use Rattle.sem_table.specs.declared.row.Row.{Row}
use Rattle.sem_table.specs.SemTable.{SemTable, no_set, no_srp_set, no_row, sem_at}

abbrev pub group_in : Parts → ℕ → Group
group_in p n = record { setup = p; number = n }

-- a semaphore that no task of the group declares has room for none
abbrev pub room_for : List ℕ → ℕ → ℕ
room_for us n = if is_empty us then 0 else n + 1

abbrev pub room : Group → ℕ → ℕ
room g s = room_for (users g s) (length g.setup.tasks)

-- nobody holds the semaphore or waits for it
abbrev pub IsNew : Group → ℕ → Protocol → AnySem → Type 0
IsNew g s protocols.Fmlp (any.Fmlp l) = (l.room ≡ room g s) × (l.line ≡ [])
IsNew g s protocols.Omlp (any.Omlp k) =
    (k.cap ≡ max 1 (cpus g (cluster_of g s))) × (k.state ≡ record { fifo = []; queue = [] }) × (length k.keys ≡ room g s)
IsNew g s protocols.Mpcp (any.Mpcp k) = (k.state ≡ record { holder = None; waiting = [] }) × (length k.keys ≡ room g s)
IsNew g s protocols.Pcp (any.Pcp c) = c.0 ≡ cluster_of g s
IsNew g s protocols.Srp (any.Srp c) = c.0 ≡ cluster_of g s
IsNew g s _ _ = ⊥

abbrev pub IsNewAt : Group → ℕ → AnySem → Type 0
IsNewAt g s k = 1 ≤ s → IsNew g s (protocol g s) k

-- the key of a task by its priority number, and the highest one of the tasks that declare a semaphore: its ceiling under P-FP
abbrev pub prio_key : Group → ℕ → Key
prio_key g t = record { band = 2; major = (task g t).prio; minor = t }

abbrev pub prio_ceiling : Group → ℕ → Key
prio_ceiling g s = highest lowest_key (map (prio_key g) (users g s))

abbrev pub ceilings : Group → List Key
ceilings g = lowest_key ∷ map (prio_ceiling g) (sems g)

-- the cluster of a PCP semaphore, and whether a cluster of the group has one
abbrev pub pcp_home : Group → ℕ → Option ℕ
pcp_home g s = if is_pcp (protocol g s) then Some (cluster_of g s) else None

abbrev pub has_pcp : Group → ℕ → Bool
has_pcp g c = in_group g c && list_any (is c) (map (pcp_home g) (sems g))

-- the PCP semaphores of a cluster; where it has none, there is room for none
abbrev pub new_set_if : Bool → List Key → ℕ → PcpKept
new_set_if true keys n = record {
  ceilings = keys;
  state = record { held = []; waiting = [] };
  keys = replicate (n + 1) lowest_key;
  grants = [];
}
new_set_if false keys n = no_set

abbrev pub new_set : Group → ℕ → PcpKept
new_set g c = new_set_if (has_pcp g c) (ceilings g) (length g.setup.tasks)

-- the cluster of an SRP semaphore, and whether a cluster of the group has one
abbrev pub srp_home : Group → ℕ → Option ℕ
srp_home g s = if is_srp (protocol g s) then Some (cluster_of g s) else None

abbrev pub is_srp_home : Group → ℕ → Bool
is_srp_home g c = in_group g c && list_any (is c) (map (srp_home g) (sems g))

-- the ceilings of the SRP semaphores, 0 for any other
abbrev pub srp_row : Group → ℕ → ℕ
srp_row g s = if is_srp (protocol g s) then srp_ceiling g s else 0

abbrev pub srp_rows : Group → List ℕ
srp_rows g = 0 ∷ map (srp_row g) (sems g)

-- the SRP semaphores of a cluster; where it has none, there is room for none
abbrev pub new_srp_if : Bool → List ℕ → ℕ → SrpKept
new_srp_if true rows n = record { ceilings = rows; held = []; room = n + 1 }
new_srp_if false rows n = no_srp_set

abbrev pub new_srp : Group → ℕ → SrpKept
new_srp g c = new_srp_if (is_srp_home g c) (srp_rows g) (length g.setup.tasks)

-- a task that holds nothing and waits for nothing
abbrev pub new_row : Task → Row
new_row t = record { home = t.cluster; awaits = None; held = 0 }

pub record IsOpened (g : Group) (w : SemTable) : Type 0 where
  pub count : length w.sems ≡ length g.setup.sems + 1
  pub sems : (s : ℕ) → s < length w.sems → IsNewAt g s (sem_at w.sems s)
  pub sets : w.sets.pcp ≡ map (new_set g) (numbers_from 0 (length g.setup.clusters))
  pub srp_sets : w.sets.srp ≡ map (new_srp g) (numbers_from 0 (length g.setup.clusters))
  pub rows : w.rows ≡ no_row ∷ map new_row g.setup.tasks
  pub served : w.served ≡ None
  pub small : length g.setup.sems < 4294967296
