use Rattle.std.proofs.Common.{◌<◌, length, rules}
use Rattle.set_runs.proofs.CpuThreads.{still-own}
use Rattle.set_runs.proofs.turn_run.play_round.Goals as goal

pub play_one-requires : goal.play_one-requires
play_one-requires g c =
    let low : c.loop-i.i < length c.loop-i.cpu_threads = search rules in
    still-own c.args.site.now.cell c.args.clock.now _ c.loop-i.cpu_threads c.loop-i.invariant c.loop-i.i c.index-cpu_threads-i.result low
