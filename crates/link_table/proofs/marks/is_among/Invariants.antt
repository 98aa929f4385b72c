use Rattle.std.proofs.Common.{◌≡◌, drop}
use Rattle.rt_rules.specs.Numbers.{has}
use Rattle.rt_base.specs.TaskNos.{numbers}
use Rattle.link_table.proofs.marks.is_among.Given as goal

-- the rest answers as the whole
abbrev pub invariant-loop-u : goal.invariant-loop-u
invariant-loop-u l = has l.t.0 (numbers (drop l.u-index l.ts)) ≡ has l.t.0 (numbers l.ts)
