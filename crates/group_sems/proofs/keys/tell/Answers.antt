use Rattle.group_sems.proofs.TellingLaws.{told-ends}
use Rattle.group_sems.proofs.keys.tell.Goals as goal
use Rattle.std.proofs.Common.{[]}

pub waits-requires-clause-ends : goal.waits-requires-clause-ends
waits-requires-clause-ends c = told-ends c.args.owner.0 c.args.task.0 [] c.args.keys.now.bases c.args.keys.now.nexts c.requires
