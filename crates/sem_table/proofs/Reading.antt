-- A position of the list of sets that is there reads the same whatever stands for a position that is not.
use Rattle.std.proofs.Common.{◌≡◌, ◌<◌, ◌∷◌, ℕ, zero, suc, List, [], length, arith}
use Rattle.std.specs.Prelude.{slice_index_or}
use Rattle.std.proofs.lemmas.List.{get_or_default}
use Rattle.pcp_sem.specs.PcpKept.{PcpKept}
use Rattle.sem_table.specs.SemTable.{ClusterSets, no_set, set_at}

there : (ps : List PcpKept) (c s : ℕ) → s < length (slice_index_or ps c no_set).ceilings → c < length ps
there [] c s h = absurd (omega (arith, h))
there (p ∷ ps) zero s h = omega arith
there (p ∷ ps) (suc c) s h = let rest = there ps c s h in omega (arith, rest)

pub set-same : (sets : ClusterSets) (c s : ℕ) (other : PcpKept) → s < length (set_at sets c).ceilings → set_at sets c ≡ slice_index_or sets.pcp c other
set-same sets c s other h = get_or_default sets.pcp c no_set other (there sets.pcp c s h)
