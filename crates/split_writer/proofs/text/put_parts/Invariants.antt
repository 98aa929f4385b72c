use Rattle.std.proofs.Common.{◌≡◌, ◌++◌, drop}
use Rattle.split_text.specs.SplitText.{parts_from}
use Rattle.split_writer.specs.PartPlays.{lists}
use Rattle.split_writer.specs.inside.Texts.{texts}
use Rattle.split_writer.proofs.text.put_parts.Given as goal

-- what was written, and then the other partitions, are all of them
abbrev pub invariant-loop-i : goal.invariant-loop-i
invariant-loop-i l =
    l.out.items ++ texts (parts_from l.parts l.i (lists (drop l.i l.histories))) ≡ l.fn.out.items ++ texts (parts_from l.parts 0 (lists l.histories))
