use Rattle.std.proofs.Common.{◌≤◌, vec_capacity}
use Rattle.cpu_site.proofs.Marking.{AreMarked}
use Rattle.cpu_site.proofs.interrupts.changed.Given as goal

abbrev pub invariant-loop-i : goal.invariant-loop-i
invariant-loop-i l = AreMarked l.before l.after l.positions.items l.i × (vec_capacity l.fn.positions ≤ vec_capacity l.positions)
