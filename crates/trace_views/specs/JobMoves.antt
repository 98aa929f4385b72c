-- The moves of one job: those before which it was its task's current job. The jobs of a task are numbered from 1.
use Rattle.std.specs.Prelude.{ℕ, ◌+◌, Bool, ◌&&◌, ◌==◌, [], ◌∷◌, Option, None, Some, if◌then◌else◌}
use Rattle.rt_model.specs.Jobs.{done}
use Rattle.rt_model.specs.Past.{Event, Past, now}

-- a test of a move and the past before it
abbrev pub Test : Type 0
Test = Event → Past → Bool

-- how many moves pass
unfoldable pub count_moves : Test → Past → ℕ
count_moves test [] = 0
count_moves test (e ∷ past) = if test e past then count_moves test past + 1 else count_moves test past

-- the clocks of the oldest and of the newest that passes
abbrev pub or_else : Option ℕ → Option ℕ → Option ℕ
or_else None o = o
or_else (Some n) o = Some n

abbrev pub clock_if : Bool → Past → Option ℕ
clock_if b past = if b then Some (now past) else None

unfoldable pub first_clock : Test → Past → Option ℕ
first_clock test [] = None
first_clock test (e ∷ past) = or_else (first_clock test past) (clock_if (test e past) past)

unfoldable pub last_clock : Test → Past → Option ℕ
last_clock test [] = None
last_clock test (e ∷ past) = or_else (clock_if (test e past) past) (last_clock test past)

-- the move is one of the task's job k, and passes
abbrev pub in_job : ℕ → ℕ → Test → Test
in_job t k test e past = done t past + 1 == k && test e past
