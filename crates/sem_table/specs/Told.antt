-- What the table tells of a semaphore and of a task.
use Rattle.std.specs.Prelude.{ℕ, Bool, true, ◌==◌, List, [], Option, None, Some, if◌then◌else◌, slice_get}
use Rattle.rt_base.specs.declared.SemNo.{SemNo}
use Rattle.rt_rules.specs.Numbers.{first}
use Rattle.rt_rules.specs.Omlp.{omlp_sem_state}
use Rattle.rt_rules.specs.Pcp.{pcp_sem_state}
use Rattle.rt_rules.specs.SemState.{SemState, in_line}
use Rattle.rt_rules.specs.Srp.{newest_held, srp_passes, srp_sem_state}
use Rattle.pcp_sem.specs.Pairs.{tasks_of}
use Rattle.pcp_sem.specs.PcpKept.{blocker_of, last_granted}
use Rattle.srp_sem.specs.SrpKept.{ceiling_at}
use Rattle.sem_table.specs.declared.any_sem.AnySem.{AnySem}
use Rattle.sem_table.specs.declared.any_sem.AnySem.TheVariants as any
use Rattle.sem_table.specs.declared.row.Row.{Row}
use Rattle.sem_table.specs.SemTable.{ClusterSets, SemTable, sem_at, set_at, srp_set_at, row_at}

-- who holds a semaphore and who waits for it
abbrev pub state_by : ClusterSets → ℕ → AnySem → SemState
state_by sets s (any.Fmlp l) = in_line l.line
state_by sets s (any.Omlp k) = omlp_sem_state k.state
state_by sets s (any.Mpcp k) = k.state
state_by sets s (any.Pcp c) = pcp_sem_state s (set_at sets c.0).state
state_by sets s (any.Srp c) = srp_sem_state s (srp_set_at sets c.0).held

abbrev pub state_of : SemTable → ℕ → SemState
state_of w s = state_by w.sets s (sem_at w.sems s)

-- the owner of a semaphore, for whom all wait that wait for it: its holder, under PCP the task of the newest grant of the cluster
abbrev pub owner_by : ClusterSets → ℕ → AnySem → Option ℕ
owner_by sets s (any.Fmlp l) = first l.line
owner_by sets s (any.Omlp k) = first k.state.fifo
owner_by sets s (any.Mpcp k) = k.state.holder
owner_by sets s (any.Pcp c) = first (tasks_of (set_at sets c.0).state.held)
owner_by sets s (any.Srp c) = (srp_sem_state s (srp_set_at sets c.0).held).holder

abbrev pub owner_of : SemTable → ℕ → Option ℕ
owner_of w s = owner_by w.sets s (sem_at w.sems s)

-- the tasks that wait for the owner of a semaphore: those that wait for it, under PCP for any semaphore of its cluster, under SRP none
abbrev pub waiters_by : ClusterSets → ℕ → AnySem → List ℕ
waiters_by sets s (any.Fmlp l) = (state_by sets s (any.Fmlp l)).waiting
waiters_by sets s (any.Omlp k) = (state_by sets s (any.Omlp k)).waiting
waiters_by sets s (any.Mpcp k) = (state_by sets s (any.Mpcp k)).waiting
waiters_by sets s (any.Pcp c) = tasks_of (set_at sets c.0).state.waiting
waiters_by sets s (any.Srp c) = []

abbrev pub waiters_of : SemTable → ℕ → List ℕ
waiters_of w s = waiters_by w.sets s (sem_at w.sems s)

-- the semaphore that a task waits for, and how many it holds
abbrev pub awaits_of : SemTable → ℕ → Option SemNo
awaits_of w t = (row_at w.rows t).awaits

abbrev pub held_of : SemTable → ℕ → ℕ
held_of w t = (row_at w.rows t).held

-- whom a task waits for that waits for a semaphore: its holder, under PCP the blocker
abbrev pub next_by : ClusterSets → ℕ → ℕ → AnySem → Option ℕ
next_by sets s t (any.Fmlp l) = first l.line
next_by sets s t (any.Omlp k) = first k.state.fifo
next_by sets s t (any.Mpcp k) = k.state.holder
next_by sets s t (any.Pcp c) = blocker_of (set_at sets c.0).ceilings (set_at sets c.0).state.held t
next_by sets s t (any.Srp c) = (srp_sem_state s (srp_set_at sets c.0).held).holder

abbrev pub next_at : SemTable → ℕ → Option SemNo → Option ℕ
next_at w t None = None
next_at w t (Some s) = next_by w.sets s.0 t (sem_at w.sems s.0)

abbrev pub waits_for_of : SemTable → ℕ → Option ℕ
waits_for_of w t = next_at w t (awaits_of w t)

-- the tasks that the last release granted a semaphore: one at most
abbrev pub served_at : SemTable → ℕ → Option ℕ
served_at w i = if i == 0 then w.served else None

-- the SRP semaphore of its cluster that a task was granted last among those that it holds, and where it holds none of these the PCP one
abbrev pub or_else : Option ℕ → Option ℕ → Option ℕ
or_else None o = o
or_else (Some s) o = Some s

abbrev pub last_at : ClusterSets → ℕ → ℕ → Option ℕ
last_at sets c t = or_else (newest_held (srp_set_at sets c).held t) (last_granted (set_at sets c).state.held t)

abbrev pub last_in : ClusterSets → ℕ → Option Row → Option ℕ
last_in sets t None = None
last_in sets t (Some r) = last_at sets r.home.0 t

abbrev pub last_of : SemTable → ℕ → Option ℕ
last_of w t = last_in w.sets t (slice_get w.rows t)

-- whether that number, the relative deadline of a task, is below the ceilings of all SRP semaphores of its cluster that other tasks hold
abbrev pub passes_at : ClusterSets → ℕ → ℕ → ℕ → Bool
passes_at sets c t deadline = srp_passes (ceiling_at (srp_set_at sets c).ceilings) (srp_set_at sets c).held t deadline

abbrev pub passes_in : ClusterSets → ℕ → ℕ → Option Row → Bool
passes_in sets t deadline None = true
passes_in sets t deadline (Some r) = passes_at sets r.home.0 t deadline

abbrev pub passes_of : SemTable → ℕ → ℕ → Bool
passes_of w t deadline = passes_in w.sets t deadline (slice_get w.rows t)
