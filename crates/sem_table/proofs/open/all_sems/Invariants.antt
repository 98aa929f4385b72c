use Rattle.std.proofs.Common.{◌≡◌, ◌+◌, ◌<◌, ℕ, length}
use Rattle.sem_table.specs.Opened.{group_in, IsNewAt}
use Rattle.sem_table.specs.SemTable.{sem_at}
use Rattle.sem_table.proofs.open.all_sems.Given as goal

-- the semaphores so far
abbrev pub invariant-loop-i : goal.invariant-loop-i
invariant-loop-i l = record {
  count : length l.all.items ≡ l.i + 1;
  each : (s : ℕ) → s < length l.all.items → IsNewAt (group_in l.parts l.group.0) s (sem_at l.all.items s);
}
