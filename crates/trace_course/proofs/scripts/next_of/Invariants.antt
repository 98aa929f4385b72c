use Rattle.std.proofs.Common.{◌≡◌, take}
use Rattle.rt_plays.specs.Scripts.{script}
use Rattle.trace_course.proofs.scripts.next_of.Given as goal

-- none of those that were passed is of the processor
abbrev pub invariant-loop-j : goal.invariant-loop-j
invariant-loop-j l = script (take l.j l.steps) l.cpu.0 ≡ script (take l.from l.steps) l.cpu.0
