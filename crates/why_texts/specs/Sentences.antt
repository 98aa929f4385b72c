-- Replies, each explained by a sentence.
use Rattle.std.specs.Prelude.{codes}
use Rattle.rt_rules.specs.declared.history.Reply.{Reply}
use Rattle.rt_rules.specs.declared.history.Reply.TheVariants as replies
use Rattle.why_texts.specs.Pieces.{Piece}

abbrev pub sentence : Reply → Piece
sentence replies.Done = codes "accepted"
sentence replies.Granted = codes "accepted: the semaphore is its from now on"
sentence replies.Queued = codes "accepted: it waits for the semaphore, and the processor runs nothing"
sentence (replies.Runs t) = codes "accepted: the processor runs its link from now on"
sentence replies.Idles = codes "accepted: the processor has no link, and runs nothing from now on"
sentence replies.Quiet = codes "refused: what the processor runs is its link"
sentence replies.Deferred = codes "refused: what the processor runs is non-preemptive"
sentence replies.Idle = codes "refused: the processor runs nothing"
sentence replies.Spent = codes "refused: the processor has done a unit at this clock"
sentence replies.NoBudget = codes "refused: no budget is left in the reservation"
sentence replies.NotDeclared = codes "refused: the task does not declare the semaphore"
sentence replies.Nested = codes "refused: beside what the job holds it may not ask for the semaphore"
sentence replies.NotHeld = codes "refused: the task does not hold the semaphore"
sentence replies.NotLast = codes "refused: another semaphore was granted later, and is given back first"
sentence replies.Holding = codes "refused: the job holds a semaphore"
sentence replies.InNp = codes "refused: the job is non-preemptive"
sentence replies.NotInNp = codes "refused: the job is not non-preemptive"
sentence replies.TooEarly = codes "refused: before the phase, or less than a period after the last arrival"
sentence replies.NotSporadic = codes "refused: the task is periodic"
