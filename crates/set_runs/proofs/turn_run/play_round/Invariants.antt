use Rattle.set_runs.specs.inside.CpuThreads.{AreStill}
use Rattle.set_runs.proofs.turn_run.play_round.Given as goal

abbrev pub invariant-loop-i : goal.invariant-loop-i
invariant-loop-i g l = AreStill l.site.cell l.clock l.fn.cpu_threads l.cpu_threads
