-- OMLP (Brandenburg and Anderson, RTSS 2010): a FIFO list of at most m requests, and a priority queue that feeds it.
-- `above t u` says that the base key of t is higher than that of u.
use Rattle.std.specs.Prelude.{ℕ, Bool, nat_lt, List, [], ◌∷◌, ◌++◌, length, Option, None, Some, if◌then◌else◌}
use Rattle.rt_rules.specs.Numbers.{without, first, rest, foremost}
use Rattle.rt_rules.specs.SemState.{SemAct, Asks, Frees, Neither, SemState}

-- the first of the FIFO list holds, all others wait
pub record OmlpState : Type 0 where
  pub fifo : List ℕ
  pub queue : List ℕ

-- the task that was chosen goes from the priority queue to the end of the FIFO list
abbrev pub handed_over : Option ℕ → OmlpState → OmlpState
handed_over None l = l
handed_over (Some t) l = record { fifo = l.fifo ++ t ∷ []; queue = without t l.queue }

-- a request joins the FIFO list where that has room, else the priority queue; at a release the head leaves, and the highest of
-- the priority queue is handed over
abbrev pub omlp_after : ℕ → (ℕ → ℕ → Bool) → SemAct → OmlpState → OmlpState
omlp_after m above (Asks t s) l =
    if nat_lt (length l.fifo) m then record l { fifo = l.fifo ++ t ∷ [] } else record l { queue = l.queue ++ t ∷ [] }
omlp_after m above (Frees t s) l = handed_over (foremost above l.queue) (record l { fifo = rest l.fifo })
omlp_after m above Neither l = l

abbrev pub omlp_sem_state : OmlpState → SemState
omlp_sem_state l = record { holder = first l.fifo; waiting = rest l.fifo ++ l.queue }
