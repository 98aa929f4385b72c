use Rattle.std.proofs.Common.{◌≡◌, ◌+◌, ◌++◌, drop}
use Rattle.split_text.specs.SplitText.{sems_from}
use Rattle.split_writer.specs.PartPlays.{lists}
use Rattle.split_writer.specs.inside.Texts.{texts}
use Rattle.split_writer.proofs.sems.put_sems.Given as goal

-- what was written, and then the other semaphores, are all of them
abbrev pub invariant-loop-i : goal.invariant-loop-i
invariant-loop-i l =
    l.out.items ++ texts (sems_from l.format.parts.now (l.i + 1) (lists (drop l.i l.sems))) ≡ l.fn.out.items ++ texts (sems_from l.format.parts.now 1 (lists l.sems))
