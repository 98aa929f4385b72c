use Rattle.std.proofs.Common.{length, ap, ◌∙◌, arith}
use Rattle.key_queue.specs.Waiting.{Waiting}
use Rattle.key_queue.proofs.QueueLaws.{few_wait}
use Rattle.key_queue.proofs.queue.KeyQueue.len.Goals as goal

pub overflow_cast-result : goal.overflow_cast-result
overflow_cast-result c = omega (arith, few_wait _ _ _ _ _ _ c.self.invariant)

pub returns : goal.returns
returns c = c.len.ensures ∙ c.self.invariant.size_is ∙ ap (λ (w : Waiting). length w.waiting) c.self.view_is
