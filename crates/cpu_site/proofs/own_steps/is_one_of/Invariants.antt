use Rattle.std.proofs.Common.{◌≡◌, drop}
use Rattle.rt_rules.specs.Numbers.{has}
use Rattle.cpu_site.specs.Cpus.{cpu_numbers}
use Rattle.cpu_site.proofs.own_steps.is_one_of.Given as goal

-- it is one of those that are left where it is one of all
abbrev pub invariant-loop-own : goal.invariant-loop-own
invariant-loop-own l = has l.cpu.0 (cpu_numbers (drop l.own-index l.cpus)) ≡ has l.cpu.0 (cpu_numbers l.cpus)
