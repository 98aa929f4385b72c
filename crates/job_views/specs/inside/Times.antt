-- Clocks are low.
use Rattle.std.specs.Prelude.{ℕ, ◌<◌, All, List, Option, unwrap_or}
use Rattle.rt_base.specs.declared.TheConstants.{TICK_END}
use Rattle.rt_task.specs.declared.Task.{Task}

-- the times of a task and its arrivals are within the limits
pub record IsEarly (t : Task) (arrivals : List ℕ) : Type 0 where
  pub phase_low : t.phase < TICK_END
  pub period_low : t.period < TICK_END
  pub deadline_low : t.rel_deadline < TICK_END
  pub arrivals_low : All (λ r. r < TICK_END) arrivals

-- a clock, where there is one, is within them
abbrev pub IsLow : Option ℕ → Type 0
IsLow o = unwrap_or o 0 < TICK_END
