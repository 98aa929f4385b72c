-- Whose step the line of an entry says, and whether that is a Tick.
use Rattle.std.specs.Prelude.{ℕ, Bool, true, false, ◌==◌, List, [], ◌∷◌, Option, option_map}
use Rattle.rt_task.specs.declared.Act.{Act}
use Rattle.rt_task.specs.declared.Act.TheVariants as acts
use Rattle.rt_task.specs.declared.Step.{Step}
use Rattle.trace_read.specs.declared.mover.Mover.{Mover}
use Rattle.trace_read.specs.Reading.{cut, small_at}

abbrev pub says_tick : Act → Bool
says_tick acts.Tick = true
says_tick _ = false

abbrev pub mover_of : Step → Mover
mover_of step = record { cpu = step.cpu; is_tick = says_tick step.act }

abbrev pub begins_with : ℕ → List ℕ → Bool
begins_with c [] = false
begins_with c (x ∷ xs) = x == c

-- the third word of a line is the processor, and of the acts that come then a Tick alone begins with the letter t
abbrev pub mover_in : List ℕ → Option Mover
mover_in line =
    option_map (λ r. record { cpu = record { 0 = r.0 }; is_tick = begins_with 116 r.1 }) (small_at (cut 32 (cut 32 line).1).1)
