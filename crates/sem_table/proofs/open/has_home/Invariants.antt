use Rattle.std.proofs.Common.{◌≡◌, drop}
use Rattle.std.specs.List.{list_any}
use Rattle.rt_rules.specs.Numbers.{is}
use Rattle.sem_table.proofs.open.has_home.Given as goal

-- the rest answers as the whole
abbrev pub invariant-loop-home : goal.invariant-loop-home
invariant-loop-home l = list_any (is l.c) (drop l.home-index l.homes) ≡ list_any (is l.c) l.homes
