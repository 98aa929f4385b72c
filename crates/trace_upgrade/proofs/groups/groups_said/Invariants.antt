use Rattle.std.proofs.Common.{◌≡◌, List, length}
use Rattle.rt_rules.specs.declared.history.Entry.{Entry}
use Rattle.rt_plays.specs.Plays.{group_count}
use Rattle.trace_upgrade.specs.Said.{TellsGroups}
use Rattle.trace_upgrade.proofs.TextLaws.{GroupsLeft}
use Rattle.trace_upgrade.proofs.groups.groups_said.Given as goal

-- with the groups that are left, there are all
abbrev pub invariant-loop-number : goal.invariant-loop-number
invariant-loop-number l = (hs : List (List Entry)) → TellsGroups l.k l.setup 0 hs l.fn.text → length hs ≡ group_count l.setup → GroupsLeft l.k l.setup hs l.number l.groups.items l.left
