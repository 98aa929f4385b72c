-- The tools that the program hands in, in order.
use Rattle.std.specs.Prelude.{List, [], ◌∷◌}
use Rattle.trace_tools.specs.Tools.{Tool}
use Rattle.trace_tools.specs.Rules.{new_misses, new_switches, new_migrations, new_occupancy, new_first_miss}

abbrev pub shipped : List Tool
shipped = new_misses ∷ new_switches ∷ new_migrations ∷ new_occupancy ∷ new_first_miss ∷ []
