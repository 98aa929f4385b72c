use Rattle.std.proofs.Common.{ℕ, arith, below_more}
use Rattle.rt_plays.specs.Homes.{IsProcessorOf}
use Rattle.rt_plays.proofs.GroupLimits.{processor-low}
use Rattle.trace_course.specs.Followed.{IsDone}
use Rattle.trace_course.proofs.scripts.Scripts.are_over.Goals as goal

pub returns-then-has_next-clause-not_over : goal.returns-then-has_next-clause-not_over
returns-then-has_next-clause-not_over c = λ at ps t over. (let left = c.has_next.ensures.some at ps c.if-has_next.true in left.1 (over c.loop-q.q left.0))

pub loop-q-preserved : goal.loop-q-preserved
loop-q-preserved c = λ at ps. below_more (λ (q : ℕ). IsProcessorOf at.group q → IsDone at.group at.entries q) c.loop-q.q (c.loop-q.invariant at ps) (c.has_next.ensures.none at ps c.if-has_next.false)

pub returns-clause-over : goal.returns-clause-over
returns-clause-over c = λ at ps t q there. c.loop-q.invariant at ps q (let low = processor-low at.group q ps.valid there in omega (arith, low, c.loop-q-test.false)) there
