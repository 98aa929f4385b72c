-- Tasks with their keys, as contracts see them.
use Rattle.std.specs.Prelude.{List, [], ◌∷◌, Option, None, Some, option_map}
use Rattle.rt_rules.specs.Keys.{Ranked}
use Rattle.part_state.specs.declared.reads.Candidate.{Candidate}

abbrev pub ranked : Candidate → Ranked
ranked c = record { key = c.key; task = c.task.0 }

abbrev pub ranked_best : Option Candidate → Option Ranked
ranked_best o = option_map ranked o

abbrev pub head : List Ranked → Option Ranked
head [] = None
head (r ∷ rs) = Some r
