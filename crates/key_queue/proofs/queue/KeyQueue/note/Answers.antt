use Rattle.std.proofs.Common.{◌≡◌, false}
use Rattle.rt_rules.specs.Numbers.{has}
use Rattle.key_queue.proofs.QueueLaws.{queue-note}
use Rattle.key_queue.proofs.queue.KeyQueue.note.Goals as goal

pub invariant_of-self : goal.invariant_of-self
invariant_of-self c =
    let outside : has c.args.task.0 c.self.inside.line.tasks ≡ false = rw (← c.self.view_is) at c.requires.outside in
    queue-note _ _ _ _ _ _ c.self.invariant c.args.task.0 c.args.key outside
