use Rattle.std.proofs.Common.{List, sym, ◌∙◌, subst}
use Rattle.set_runs.specs.declared.cpu_thread.CpuThread.{CpuThread}
use Rattle.set_runs.specs.inside.CpuThreads.{AreStill}
use Rattle.set_runs.proofs.CpuThreads.{all-done, still-own, work-on, work-own}
use Rattle.set_runs.proofs.turn_run.drive_all_turns.Goals as goal

pub play_in_threads-requires-after_bounds : goal.play_in_threads-requires-after_bounds
play_in_threads-requires-after_bounds g c κs within = work-own c.args.site.now.cell c.in_ok-clock.clock c.args.seats.items c.in_ok-cpu_threads.cpu_threads.items c.in_ok-cpu_threads.ensures

pub play_by_caller-requires : goal.play_by_caller-requires
play_by_caller-requires g c =
    rw c.as_mut_slice.ensures.value (still-own c.args.site.now.cell c.in_ok-clock.clock c.in_ok-cpu_threads.cpu_threads.items c.in_ok-cpu_threads-2.cpu_threads.items c.in_ok-cpu_threads-2.ensures)

pub returns : goal.returns
returns g c =
    let work = work-on c.args.site.now.cell c.in_ok-clock.clock c.args.seats.items c.in_ok-cpu_threads.cpu_threads.items c.in_ok-cpu_threads-2.cpu_threads.items c.in_ok-cpu_threads.ensures c.in_ok-cpu_threads-2.ensures in
    let still = subst (λ (ds : List CpuThread). AreStill c.args.site.now.cell c.in_ok-clock.clock ds c.play_by_caller.new.cpu_threads) c.as_mut_slice.ensures.value c.play_by_caller.ensures.still in
    all-done c.args.site.now.cell c.in_ok-clock.clock (λ v. v.items) c.seats_of.result c.args.seats.items c.play_by_caller.new.cpu_threads _ c.in_ok-cpu_threads-2.cpu_threads.len
    (work-on c.args.site.now.cell c.in_ok-clock.clock c.args.seats.items c.in_ok-cpu_threads-2.cpu_threads.items c.play_by_caller.new.cpu_threads work still) c.play_by_caller.ensures.over (c.in_ok-cpu_threads-2.cpu_threads.ok.0 ∙ sym still.all) c.seats_of.ensures
