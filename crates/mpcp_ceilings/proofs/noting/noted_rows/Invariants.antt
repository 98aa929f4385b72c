use Rattle.rt_plays.specs.Plays.{group_with}
use Rattle.mpcp_ceilings.proofs.NotedLaws.{AreNoted}
use Rattle.mpcp_ceilings.proofs.noting.noted_rows.Given as goal

abbrev pub invariant-loop-task : goal.invariant-loop-task
invariant-loop-task l = AreNoted (group_with l.parts l.group.0) l.task-index l.rows.items
