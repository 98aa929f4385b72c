-- What a release makes of the table, and whom it grants a semaphore.
use Rattle.std.specs.Prelude.{ℕ, ◌-◌, nat_lt, List, [], ◌∷◌, length, Option, None, Some, if◌then◌else◌, slice_set}
use Rattle.rt_rules.specs.Fmlp.{fmlp_after}
use Rattle.rt_rules.specs.Mpcp.{mpcp_after}
use Rattle.rt_rules.specs.Numbers.{first}
use Rattle.rt_rules.specs.Omlp.{omlp_after}
use Rattle.rt_rules.specs.Pcp.{TaskSem, PcpState, pcp_after, without_pair}
use Rattle.rt_rules.specs.SemState.{Frees}
use Rattle.rt_rules.specs.Srp.{srp_after}
use Rattle.sem_laws.specs.KeptKeys.{above}
use Rattle.pcp_sem.specs.Pairs.{tasks_of}
use Rattle.pcp_sem.specs.PcpKept.{PcpKept, above_ceiling}
use Rattle.srp_sem.specs.SrpKept.{SrpKept}
use Rattle.sem_table.specs.declared.any_sem.AnySem.{AnySem}
use Rattle.sem_table.specs.declared.any_sem.AnySem.TheVariants as any
use Rattle.sem_table.specs.declared.row.Row.{Row}
use Rattle.sem_table.specs.SemTable.{ClusterSets, SemTable, sem_at, set_at, srp_set_at, row_at}
use Rattle.sem_table.specs.Asked.{one_more}

-- at one semaphore
abbrev pub freed : ℕ → AnySem → AnySem
freed t (any.Fmlp l) = any.Fmlp (record { room = l.room; line = fmlp_after (Frees t 0) l.line })
freed t (any.Omlp k) = any.Omlp (record { cap = k.cap; state = omlp_after k.cap (above k.keys) (Frees t 0) k.state; keys = k.keys })
freed t (any.Mpcp k) = any.Mpcp (record { state = mpcp_after (above k.keys) (Frees t 0) k.state; keys = k.keys })
freed t (any.Pcp c) = any.Pcp c
freed t (any.Srp c) = any.Srp c

-- at the PCP semaphores of a cluster
abbrev pub pcp_freed : ℕ → ℕ → PcpKept → PcpState
pcp_freed t s p = pcp_after (above p.keys) (above_ceiling p.keys p.ceilings) (Frees t s) p.state

-- the task of the pair by which the second list is longer than the first
abbrev pub newcomer : List TaskSem → List TaskSem → Option ℕ
newcomer before after = if nat_lt (length before) (length after) then first (tasks_of after) else None

-- the task that is granted a semaphore
abbrev pub set_served : ℕ → ℕ → PcpKept → Option ℕ
set_served t s p = newcomer (without_pair (record { task = t; sem = s }) p.state.held) (pcp_freed t s p).held

abbrev pub served_by : ℕ → ℕ → ClusterSets → AnySem → Option ℕ
served_by t s sets (any.Fmlp l) = first (fmlp_after (Frees t 0) l.line)
served_by t s sets (any.Omlp k) = first (omlp_after k.cap (above k.keys) (Frees t 0) k.state).fifo
served_by t s sets (any.Mpcp k) = (mpcp_after (above k.keys) (Frees t 0) k.state).holder
served_by t s sets (any.Pcp c) = set_served t s (set_at sets c.0)
served_by t s sets (any.Srp c) = None

abbrev pub grants_of : Option ℕ → List ℕ
grants_of None = []
grants_of (Some u) = u ∷ []

abbrev pub set_freed : ℕ → ℕ → PcpKept → PcpKept
set_freed t s p = record { ceilings = p.ceilings; state = pcp_freed t s p; keys = p.keys; grants = grants_of (set_served t s p) }

-- at the SRP semaphores of a cluster
abbrev pub srp_freed : ℕ → ℕ → SrpKept → SrpKept
srp_freed t s p = record p { held = srp_after (Frees t s) p.held }

abbrev pub sets_freed : ℕ → ℕ → AnySem → ClusterSets → ClusterSets
sets_freed t s (any.Fmlp l) sets = sets
sets_freed t s (any.Omlp k) sets = sets
sets_freed t s (any.Mpcp k) sets = sets
sets_freed t s (any.Pcp c) sets = record sets { pcp = slice_set sets.pcp c.0 (set_freed t s (set_at sets c.0)) }
sets_freed t s (any.Srp c) sets = record sets { srp = slice_set sets.srp c.0 (srp_freed t s (srp_set_at sets c.0)) }

-- at the task that frees it, and at the one that is granted one
abbrev pub row_freed : Row → Row
row_freed r = record { home = r.home; awaits = r.awaits; held = r.held - 1 }

abbrev pub row_served : Row → Row
row_served r = record { home = r.home; awaits = None; held = one_more r.held }

abbrev pub rows_served : Option ℕ → List Row → List Row
rows_served None rows = rows
rows_served (Some t) rows = slice_set rows t (row_served (row_at rows t))

abbrev pub after_release : ℕ → ℕ → SemTable → SemTable
after_release t s w = record {
  sems = slice_set w.sems s (freed t (sem_at w.sems s));
  sets = sets_freed t s (sem_at w.sems s) w.sets;
  rows = rows_served (served_by t s w.sets (sem_at w.sems s)) (slice_set w.rows t (row_freed (row_at w.rows t)));
  served = served_by t s w.sets (sem_at w.sems s);
}
