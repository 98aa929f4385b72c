-- Which replies can come to an act.
use Rattle.std.specs.Prelude.{Bool, true, false}
use Rattle.rt_task.specs.declared.Act.{Act}
use Rattle.rt_task.specs.declared.Act.TheVariants as acts
use Rattle.rt_rules.specs.declared.history.Reply.{Reply}
use Rattle.rt_rules.specs.declared.history.Reply.TheVariants as replies

abbrev pub comes_to_irq : Reply → Bool
comes_to_irq replies.Quiet = true
comes_to_irq replies.Idles = true
comes_to_irq (replies.Runs t) = true
comes_to_irq _ = false

abbrev pub comes_to_op : Reply → Bool
comes_to_op replies.Idles = false
comes_to_op (replies.Runs t) = false
comes_to_op _ = true

-- an interrupt alone makes the processor run a task or idle
abbrev pub can_come : Act → Reply → Bool
can_come acts.Tick reply = true
can_come acts.Irq reply = comes_to_irq reply
can_come (acts.Arrive t) reply = true
can_come (acts.Do op) reply = comes_to_op reply
