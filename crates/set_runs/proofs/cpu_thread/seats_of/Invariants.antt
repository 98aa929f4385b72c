use Rattle.std.proofs.Common.{◌≡◌, ◌++◌, map}
use Rattle.set_runs.specs.declared.cpu_thread.CpuThread.{CpuThread}
use Rattle.set_runs.proofs.cpu_thread.seats_of.Given as goal

-- the seats that were taken, and then those of the cpu_threads that are left, are all of them
abbrev pub invariant-loop-cpu_thread : goal.invariant-loop-cpu_thread
invariant-loop-cpu_thread l = map (λ (d : CpuThread). d.seat) l.fn.cpu_threads.items ≡ l.seats.items ++ map (λ (d : CpuThread). d.seat) l.cpu_thread-iterator.rest.items
