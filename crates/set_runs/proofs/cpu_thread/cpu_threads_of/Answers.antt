use Rattle.std.proofs.Common.{refl}
use Rattle.set_runs.proofs.CpuThreads.{made-more, made-none}
use Rattle.set_runs.proofs.cpu_thread.cpu_threads_of.Goals as goal

pub loop-seat-init : goal.loop-seat-init
loop-seat-init c =
    made-none c.args.site.now.cell c.args.clock.now c.args.seats.items c.into_iter-seat-iterator.result.rest.items c.args.turns.items c.new-cpu_threads.result.items c.into_iter-seat-iterator.ensures.into_iter_gives.0 c.new-cpu_threads.ensures.items
    c.requires.seats c.requires.turns c.requires.count

pub loop-seat-preserved : goal.loop-seat-preserved
loop-seat-preserved c =
    made-more c.args.site.now.cell c.args.clock.now c.args.seats.items c.loop-seat.seat-iterator.rest.items c.next.new.self.rest.items c.loop-seat.turns.items c.pop.new.self.items c.loop-seat.cpu_threads.items c.push.new.self.items c.in-Some.seat c.in-Some-pop.turns _
    c.loop-seat.invariant c.in-Some.ensures.steps.0 c.in-Some-pop.ensures.items c.in_ok-push.ensures.items refl refl (λ yes. cc)
