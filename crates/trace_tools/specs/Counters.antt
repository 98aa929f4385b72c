-- The counters of a bus: a tool that still counts, or the name and the totals of one that has ended and was dropped.
use Rattle.std.specs.Prelude.{ℕ, List, [], ◌∷◌, map, if◌then◌else◌}
use Rattle.trace_lines.specs.Lines.{Line, count_line}
use Rattle.trace_tools.specs.declared.shown.Shown.{Shown}
use Rattle.trace_tools.specs.Tools.{Tool, fed, has_ended, totals}

pub data Counter : Type 0 where
  counting : Tool → Counter
  counted : ℕ → List ℕ → Counter

-- a tool that has ended leaves its counter with its totals
abbrev pub counter_of : Tool → Counter
counter_of t = if has_ended t then counted t.rules.name (totals t) else counting t

-- where its tool has ended it leaves
abbrev pub closed : Counter → Counter
closed (counting t) = counter_of t
closed (counted name numbers) = counted name numbers

-- a tool that counts is fed
abbrev pub fed_counter : Shown → Counter → Counter
fed_counter e (counting t) = counting (fed e t)
fed_counter e (counted name numbers) = counted name numbers

-- a counter after an entry that is shown
abbrev pub counter_after : Shown → Counter → Counter
counter_after e counter = closed (fed_counter e counter)

-- the counters after all these entries, in order
abbrev pub counters_after : List Shown → List Counter → List Counter
counters_after [] counters = counters
counters_after (e ∷ es) counters = counters_after es (map (counter_after e) counters)

-- the count line of a counter
abbrev pub counter_line : Counter → Line
counter_line (counting t) = count_line t.rules.name (totals t)
counter_line (counted name numbers) = count_line name numbers
