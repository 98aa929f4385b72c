use Rattle.set_runs.proofs.CpuThreads.{still-on, still-own}
use Rattle.set_runs.proofs.turn_run.play_by_caller.Goals as goal

pub play_round-requires : goal.play_round-requires
play_round-requires g c = still-own c.args.site.now.cell c.args.clock.now _ c.loop.cpu_threads c.loop.invariant.2

pub loop-preserved : goal.loop-preserved
loop-preserved g c = (tt, tt, still-on c.args.site.now.cell c.args.clock.now _ _ _ c.loop.invariant.2 c.play_round.ensures)
