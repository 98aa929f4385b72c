use Rattle.std.proofs.Common.{◌≡◌, drop, map}
use Rattle.rt_base.specs.TaskNos.{numbers}
use Rattle.rt_base.specs.declared.TheConstants.{TICK_END}
use Rattle.rt_rules.specs.Srp.{least}
use Rattle.rt_model.specs.Group.{task}
use Rattle.sem_table.specs.Opened.{group_in}
use Rattle.sem_table.proofs.open_srp.least_deadline.Given as goal

-- the rest answers as the whole
abbrev pub invariant-loop-t : goal.invariant-loop-t
invariant-loop-t l = least l.smallest (map (λ t. (task (group_in l.parts l.group.0) t).rel_deadline) (numbers (drop l.t-index l.users))) ≡ least TICK_END (map (λ t. (task (group_in l.parts l.group.0) t).rel_deadline) (numbers l.users))
