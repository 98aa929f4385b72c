-- What a bus keeps is what its tools would say, and what each of the five tools says of the entries.
use Rattle.std.specs.Prelude.{◌≡◌, List, map}
use Rattle.trace_tools.specs.declared.shown.Shown.{Shown}
use Rattle.trace_tools.specs.Tools.{Tool, after, line_of, totals}
use Rattle.trace_tools.specs.Counters.{counter_of, counters_after, counter_line}
use Rattle.trace_tools.specs.Entries.{misses, switches, migrations, occupancy, first_miss}
use Rattle.trace_tools.specs.Rules.{new_misses, new_switches, new_migrations, new_occupancy, new_first_miss}

-- the lines of a bus after entries are those of its tools, each fed every entry in order up to the one after which it ended
abbrev pub BusesKeepTools : Type 0
BusesKeepTools = (tools : List Tool) (es : List Shown) →
    map counter_line (counters_after es (map counter_of tools)) ≡ map (λ (t : Tool). line_of (after es t)) tools

abbrev pub MissesAreCounted : Type 0
MissesAreCounted = (es : List Shown) → totals (after es new_misses) ≡ misses es

abbrev pub SwitchesAreCounted : Type 0
SwitchesAreCounted = (es : List Shown) → totals (after es new_switches) ≡ switches es

abbrev pub MigrationsAreCounted : Type 0
MigrationsAreCounted = (es : List Shown) → totals (after es new_migrations) ≡ migrations es

abbrev pub OccupancyIsCounted : Type 0
OccupancyIsCounted = (es : List Shown) → totals (after es new_occupancy) ≡ occupancy es

abbrev pub FirstMissIsFound : Type 0
FirstMissIsFound = (es : List Shown) → totals (after es new_first_miss) ≡ first_miss es
