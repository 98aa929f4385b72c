use Rattle.trace_course.specs.Next.{AreFollowing}
use Rattle.trace_course.proofs.Distances.{AreNext}
use Rattle.trace_course.proofs.following.following_of.Given as goal

-- the next step of each processor from the position on is kept
abbrev pub invariant-loop-position : goal.invariant-loop-position
invariant-loop-position l = record {
  following_are : AreFollowing l.steps l.following.items;
  next_are : AreNext l.steps l.position l.next.items;
}
