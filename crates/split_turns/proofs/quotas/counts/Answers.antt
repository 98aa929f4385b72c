use Rattle.std.proofs.Common.{length}
use Rattle.rt_plays.specs.Scripts.{script}
use Rattle.split_turns.proofs.ListLaws.{mapped-more}
use Rattle.split_turns.proofs.quotas.counts.Goals as goal

pub loop-cpu-preserved : goal.loop-cpu-preserved
loop-cpu-preserved c = mapped-more (λ q. length (script c.args.steps.now q)) c.loop-cpu.cpu _ _ _ c.in_ok-push.ensures.items c.loop-cpu.invariant c.count_of.ensures
