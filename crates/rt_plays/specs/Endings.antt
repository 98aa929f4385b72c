-- The task whose job the last move of a past ended, and whether it ended late.
use Rattle.std.specs.Prelude.{ℕ, Bool, nat_lt, [], ◌∷◌, Option, None, Some, option_map}
use Rattle.rt_base.specs.declared.TaskNo.{TaskNo}
use Rattle.rt_model.specs.Group.{Group}
use Rattle.rt_model.specs.Past.{Past, PastAct, Clock, Acted, now}
use Rattle.rt_model.specs.Releases.{deadline}

-- the task whose job an act ended, and whether the clock was past that job's deadline
abbrev pub ended_in : Group → PastAct → Past → Option (TaskNo × Bool)
ended_in g d past = option_map (λ t. (record { 0 = t }, nat_lt (deadline g t past) (now past))) d.ended

-- of the last move; a move of the clock ends no job
abbrev pub ended_last : Group → Past → Option (TaskNo × Bool)
ended_last g [] = None
ended_last g (Clock tick ∷ past) = None
ended_last g (Acted d ∷ past) = ended_in g d past
