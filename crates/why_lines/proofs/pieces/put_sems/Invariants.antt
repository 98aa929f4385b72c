use Rattle.std.proofs.Common.{◌≡◌, ◌++◌, drop}
use Rattle.why_texts.specs.Pieces.{sem_names}
use Rattle.why_lines.specs.GroupSets.{group_in}
use Rattle.why_lines.specs.SemNos.{sem_numbers}
use Rattle.why_lines.proofs.pieces.put_sems.Given as goal

-- what was written, and then the rest of the semaphores, are all the semaphores
abbrev pub invariant-loop-sem : goal.invariant-loop-sem
invariant-loop-sem l = l.out.items ++ sem_names (group_in l.set) (sem_numbers (drop l.sem-index l.sems)) ≡ l.fn.out.items ++ sem_names (group_in l.set) (sem_numbers l.sems)
