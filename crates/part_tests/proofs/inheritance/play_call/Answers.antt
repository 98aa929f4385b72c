use Rattle.part_tests.proofs.InheritLaws.{rising-joined}
use Rattle.part_tests.proofs.inheritance.play_call.Goals as goal

pub waits-requires-clause-ends : goal.waits-requires-clause-ends
waits-requires-clause-ends c = rising-joined c.args.table.now.nexts _ _ c.requires.rising c.if-task-holder.true
