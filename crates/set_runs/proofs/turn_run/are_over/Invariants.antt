use Rattle.std.proofs.Common.{take}
use Rattle.set_runs.specs.inside.CpuThreads.{AreOver}
use Rattle.set_runs.proofs.turn_run.are_over.Given as goal

abbrev pub invariant-loop-cpu_thread : goal.invariant-loop-cpu_thread
invariant-loop-cpu_thread l = AreOver (take l.cpu_thread-index l.cpu_threads)
