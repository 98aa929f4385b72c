-- The semaphores of a group as contracts see them.
use Rattle.std.specs.Prelude.{ℕ, List, [], Option, None, slice_index_or}
use Rattle.pcp_sem.specs.PcpKept.{PcpKept}
use Rattle.srp_sem.specs.SrpKept.{SrpKept}
use Rattle.sem_table.specs.declared.any_sem.AnySem.{AnySem}
use Rattle.sem_table.specs.declared.any_sem.AnySem.TheVariants as any
use Rattle.sem_table.specs.declared.row.Row.{Row}

-- the PCP semaphores and the SRP semaphores of each cluster, by its number
pub record ClusterSets : Type 0 where
  pub pcp : List PcpKept
  pub srp : List SrpKept

-- the semaphores by number; those of each cluster that are kept in sets; what each task holds and waits for, by its number; and the task
-- that the last release granted a semaphore
pub record SemTable : Type 0 where
  pub sems : List AnySem
  pub sets : ClusterSets
  pub rows : List Row
  pub served : Option ℕ

-- what a number that stands for nothing is read as
abbrev pub no_sem : AnySem
no_sem = any.Fmlp (record { room = 0; line = [] })

abbrev pub no_set : PcpKept
no_set = record { ceilings = []; state = record { held = []; waiting = [] }; keys = []; grants = [] }

abbrev pub no_srp_set : SrpKept
no_srp_set = record { ceilings = []; held = []; room = 0 }

abbrev pub no_row : Row
no_row = record { home = record { 0 = 0 }; awaits = None; held = 0 }

abbrev pub sem_at : List AnySem → ℕ → AnySem
sem_at sems s = slice_index_or sems s no_sem

abbrev pub set_at : ClusterSets → ℕ → PcpKept
set_at sets c = slice_index_or sets.pcp c no_set

abbrev pub srp_set_at : ClusterSets → ℕ → SrpKept
srp_set_at sets c = slice_index_or sets.srp c no_srp_set

abbrev pub row_at : List Row → ℕ → Row
row_at rows t = slice_index_or rows t no_row
