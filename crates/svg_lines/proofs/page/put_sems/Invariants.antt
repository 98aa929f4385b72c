use Rattle.std.proofs.Common.{◌≡◌, ◌++◌, drop}
use Rattle.svg_texts.specs.SvgText.{sems_from}
use Rattle.svg_lines.proofs.page.put_sems.Given as goal

-- what was written, and then the rest of the semaphores, are all
abbrev pub invariant-loop-i : goal.invariant-loop-i
invariant-loop-i l = l.out.items ++ sems_from l.y l.i (drop l.i l.sems) ≡ l.fn.out.items ++ sems_from l.y 0 l.sems
