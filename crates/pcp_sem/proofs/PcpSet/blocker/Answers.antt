use Rattle.pcp_sem.proofs.Acts.{after_acts}
use Rattle.pcp_sem.proofs.Blockers.{blocker-newest}
use Rattle.pcp_sem.proofs.PcpSet.blocker.Goals as goal

pub returns-clause-holder : goal.returns-clause-holder
returns-clause-holder c =
    rw (← c.self.view_is, blocker-newest _ _ c.args.task.0 _ c.self.invariant.facts.stack.stacked c.self.invariant.facts.sound, ← c.as_slice.ensures.value) c.newest_of_others.ensures.task

pub returns-clause-holds : goal.returns-clause-holds
returns-clause-holds c = rw (← c.self.view_is) (after_acts _ _ _ _ _ _ _ c.self.invariant.facts _)
