use Rattle.std.proofs.Common.{◌≡◌, drop, map}
use Rattle.rt_base.specs.TaskNos.{numbers}
use Rattle.rt_rules.specs.Keys.{highest}
use Rattle.rt_rules.specs.KeyOrder.{lowest_key}
use Rattle.sem_table.specs.Opened.{group_in, prio_key}
use Rattle.sem_table.proofs.parts.ceiling.Given as goal

-- the rest answers as the whole
abbrev pub invariant-loop-t : goal.invariant-loop-t
invariant-loop-t l = highest l.best (map (prio_key (group_in l.parts l.group.0)) (numbers (drop l.t-index l.users))) ≡ highest lowest_key (map (prio_key (group_in l.parts l.group.0)) (numbers l.users))
