use Rattle.std.proofs.Common.{◌≡◌, ◌++◌, ◌-◌}
use Rattle.std.specs.Prelude.{min}
use Rattle.rt_rules.specs.Numbers.{numbers_from}
use Rattle.chart_feed.proofs.entry_clocks.numbers_in.Given as goal

-- those so far and the rest are all of them
abbrev pub invariant-loop-column : goal.invariant-loop-column
invariant-loop-column l = l.numbers.items ++ numbers_from l.column (min l.count l.fn.window.to - l.column) ≡ numbers_from l.fn.window.from (min l.count l.fn.window.to - l.fn.window.from)
