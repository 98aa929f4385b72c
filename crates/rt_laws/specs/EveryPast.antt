-- Where the laws hold: in each group of a valid setup, over every past that moves make.
use Rattle.std.specs.Prelude.{List, ◌∷◌}
use Rattle.rt_task.specs.Validity.{IsValid}
use Rattle.rt_rules.specs.declared.history.Entry.{Entry}
use Rattle.rt_model.specs.Group.{Group}
use Rattle.rt_model.specs.Histories.{past_of}
use Rattle.rt_model.specs.Reachable.{IsReachable}
use Rattle.rt_model.specs.Past.{Event, Past}

-- a law of the moments between moves
abbrev pub EveryPast : (Group → Past → Type 0) → Type 0
EveryPast Holds = (g : Group) (past : Past) → IsValid g.setup → IsReachable g past → Holds g past

-- a law of moves: of an event and the past before it
abbrev pub EveryMove : (Group → Event → Past → Type 0) → Type 0
EveryMove Holds = (g : Group) (e : Event) (past : Past) → IsValid g.setup → IsReachable g (e ∷ past) → Holds g e past

-- Each history makes a past of which the laws speak.
abbrev pub HistoriesAreMade : Type 0
HistoriesAreMade = (g : Group) (es : List Entry) → IsReachable g (past_of g es)
