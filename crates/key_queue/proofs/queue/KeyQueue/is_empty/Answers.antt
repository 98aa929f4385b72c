use Rattle.std.proofs.Common.{◌==◌, length, ap, ◌∙◌}
use Rattle.key_queue.specs.Waiting.{Waiting}
use Rattle.key_queue.proofs.queue.KeyQueue.is_empty.Goals as goal

pub returns : goal.returns
returns c = c.is_empty.ensures ∙ ap (λ n. n == 0) (c.self.invariant.size_is ∙ ap (λ (w : Waiting). length w.waiting) c.self.view_is)
