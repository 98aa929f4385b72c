-- What a request makes of the table, and when it is granted at once.
use Rattle.std.specs.Prelude.{ℕ, ◌+◌, Bool, true, false, min, Option, None, Some, slice_set}
use Rattle.rt_rules.specs.declared.Key.{Key}
use Rattle.rt_rules.specs.Fmlp.{fmlp_after}
use Rattle.rt_rules.specs.Mpcp.{mpcp_after}
use Rattle.rt_rules.specs.Numbers.{first, same}
use Rattle.rt_rules.specs.Omlp.{omlp_after}
use Rattle.rt_rules.specs.Pcp.{pcp_after, passes}
use Rattle.rt_rules.specs.SemState.{Asks}
use Rattle.rt_rules.specs.Srp.{srp_after}
use Rattle.sem_laws.specs.KeptKeys.{above}
use Rattle.pcp_sem.specs.PcpKept.{PcpKept, above_ceiling}
use Rattle.srp_sem.specs.SrpKept.{SrpKept}
use Rattle.sem_table.specs.declared.any_sem.AnySem.{AnySem}
use Rattle.sem_table.specs.declared.any_sem.AnySem.TheVariants as any
use Rattle.sem_table.specs.declared.row.Row.{Row}
use Rattle.sem_table.specs.SemTable.{ClusterSets, SemTable, sem_at, set_at, srp_set_at, row_at}

-- whether nobody holds it
abbrev pub is_free : Option ℕ → Bool
is_free o = same None o

-- at one semaphore
abbrev pub asked : ℕ → Key → AnySem → AnySem
asked t key (any.Fmlp l) = any.Fmlp (record { room = l.room; line = fmlp_after (Asks t 0) l.line })
asked t key (any.Omlp k) = any.Omlp (record {
  cap = k.cap;
  state = omlp_after k.cap (above k.keys) (Asks t 0) k.state;
  keys = slice_set k.keys t key;
})
asked t key (any.Mpcp k) = any.Mpcp (record { state = mpcp_after (above k.keys) (Asks t 0) k.state; keys = slice_set k.keys t key })
asked t key (any.Pcp c) = any.Pcp c
asked t key (any.Srp c) = any.Srp c

-- at the PCP semaphores of a cluster
abbrev pub set_asked : ℕ → Key → ℕ → PcpKept → PcpKept
set_asked t key s p = record {
  ceilings = p.ceilings;
  state = pcp_after (above (slice_set p.keys t key)) (above_ceiling (slice_set p.keys t key) p.ceilings) (Asks t s) p.state;
  keys = slice_set p.keys t key;
  grants = p.grants;
}

-- at the SRP semaphores of a cluster
abbrev pub srp_asked : ℕ → ℕ → SrpKept → SrpKept
srp_asked t s p = record p { held = srp_after (Asks t s) p.held }

abbrev pub sets_asked : ℕ → Key → ℕ → AnySem → ClusterSets → ClusterSets
sets_asked t key s (any.Fmlp l) sets = sets
sets_asked t key s (any.Omlp k) sets = sets
sets_asked t key s (any.Mpcp k) sets = sets
sets_asked t key s (any.Pcp c) sets = record sets { pcp = slice_set sets.pcp c.0 (set_asked t key s (set_at sets c.0)) }
sets_asked t key s (any.Srp c) sets = record sets { srp = slice_set sets.srp c.0 (srp_asked t s (srp_set_at sets c.0)) }

-- whether it is granted at once
abbrev pub set_passes : ℕ → Key → PcpKept → Bool
set_passes t key p = passes (above_ceiling (slice_set p.keys t key) p.ceilings) p.state.held t

abbrev pub is_granted_by : ℕ → Key → ClusterSets → AnySem → Bool
is_granted_by t key sets (any.Fmlp l) = is_free (first l.line)
is_granted_by t key sets (any.Omlp k) = is_free (first k.state.fifo)
is_granted_by t key sets (any.Mpcp k) = is_free k.state.holder
is_granted_by t key sets (any.Pcp c) = set_passes t key (set_at sets c.0)
is_granted_by t key sets (any.Srp c) = true

abbrev pub is_granted : ℕ → Key → ℕ → SemTable → Bool
is_granted t key s w = is_granted_by t key w.sets (sem_at w.sems s)

-- at the task: one more semaphore is held, or the task waits
abbrev pub one_more : ℕ → ℕ
one_more n = min (n + 1) 4294967295

abbrev pub row_asked : Bool → ℕ → Row → Row
row_asked true s r = record { home = r.home; awaits = r.awaits; held = one_more r.held }
row_asked false s r = record { home = r.home; awaits = Some (record { 0 = s }); held = r.held }

abbrev pub after_ask : ℕ → Key → ℕ → SemTable → SemTable
after_ask t key s w = record {
  sems = slice_set w.sems s (asked t key (sem_at w.sems s));
  sets = sets_asked t key s (sem_at w.sems s) w.sets;
  rows = slice_set w.rows t (row_asked (is_granted t key s w) s (row_at w.rows t));
  served = w.served;
}
