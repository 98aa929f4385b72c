use Rattle.set_runs.proofs.CpuThreads.{AreMade}
use Rattle.set_runs.proofs.cpu_thread.cpu_threads_of.Given as goal

abbrev pub invariant-loop-seat : goal.invariant-loop-seat
invariant-loop-seat l = AreMade l.site.cell l.clock l.fn.seats.items l.seat-iterator.rest.items l.turns.items l.cpu_threads.items
