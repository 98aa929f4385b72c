use Rattle.std.proofs.Common.{arith}
use Rattle.sem_table.specs.Opened.{group_in, new_srp}
use Rattle.sem_table.proofs.Opening.{mapped-more}
use Rattle.sem_table.proofs.open_srp.all_sets.Goals as goal

pub loop-i-preserved : goal.loop-i-preserved
loop-i-preserved c = mapped-more (new_srp (group_in c.args.parts.now c.args.group.0)) 0 c.loop-i.i c.loop-i.i c.loop-i.sets.items c.push.new.self.items c.in_ok-set.set c.in_ok-push.ensures.items c.loop-i.invariant c.in_ok-set.ensures (omega arith)
