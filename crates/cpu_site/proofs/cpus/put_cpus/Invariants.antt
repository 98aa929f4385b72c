use Rattle.std.proofs.Common.{◌≡◌, ◌+◌, ◌-◌, ◌++◌}
use Rattle.rt_rules.specs.Numbers.{numbers_from}
use Rattle.cpu_site.specs.Cpus.{cpu_numbers}
use Rattle.cpu_site.proofs.cpus.put_cpus.Given as goal

-- what was put, and then the rest of the numbers, are all of them
abbrev pub invariant-loop-q : goal.invariant-loop-q
invariant-loop-q l = cpu_numbers l.cpus.items ++ numbers_from l.q (l.first + l.count - l.q) ≡ cpu_numbers l.fn.cpus.items ++ numbers_from l.first l.count
