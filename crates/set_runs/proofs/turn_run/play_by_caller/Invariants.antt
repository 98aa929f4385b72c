use Rattle.set_runs.specs.inside.CpuThreads.{AreStill}
use Rattle.set_runs.proofs.turn_run.play_by_caller.Given as goal

abbrev pub invariant-loop : goal.invariant-loop
invariant-loop g l =
    (goal.iterator-loop g).can_next l.iterator' × (goal.iterator-loop g).is_finite l.iterator'
    × AreStill l.site.cell l.clock l.fn.cpu_threads l.cpu_threads
