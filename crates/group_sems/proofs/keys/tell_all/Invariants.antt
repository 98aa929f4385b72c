use Rattle.group_sems.proofs.TellingLaws.{AreToTell}
use Rattle.group_sems.proofs.keys.tell_all.Given as goal

abbrev pub invariant-loop-waiter : goal.invariant-loop-waiter
invariant-loop-waiter l = AreToTell l.owner.0 l.waiter-index l.waiters l.initial.keys l.keys
