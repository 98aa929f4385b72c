-- One induction for every law: it holds at the opening, and each move keeps it.
use Rattle.std.specs.Prelude.{[], ℕ, ◌∷◌}
use Rattle.rt_task.specs.declared.Act.{Act}
use Rattle.rt_model.specs.Group.{Group}
use Rattle.rt_model.specs.Reachable.{IsReachable, acted, clocked, opened}
use Rattle.rt_model.specs.Outcomes.{past_act}
use Rattle.rt_model.specs.Past.{Acted, Clock, Event, Past}

-- the next event of a past: the clock moves, or a processor acts
pub data IsMove (g : Group) (past : Past) : Event → Type 0 where
  clock_moves : (tick : ℕ) → IsMove g past (Clock tick)
  cpu_acts : (q : ℕ) (a : Act) → IsMove g past (Acted (past_act g q a past))

-- a law of every past: it holds at the opening, and each move keeps it
pub by_moves : (g : Group) (P : Past → Type 0) → P [] → ((past : Past) (e : Event) → IsReachable g past → IsMove g past e → P past → P (e ∷ past)) → {past : Past} → IsReachable g past → P past
by_moves g P base step opened = base
by_moves g P base step (clocked {past = past} tick made) = step past (Clock tick) made (clock_moves tick) (by_moves g P base step made)
by_moves g P base step (acted {past = past} q a made) = step past (Acted (past_act g q a past)) made (cpu_acts q a) (by_moves g P base step made)

-- a past with one more move is one that moves make
pub moved : (g : Group) {past : Past} {e : Event} → IsReachable g past → IsMove g past e → IsReachable g (e ∷ past)
moved g made (clock_moves tick) = clocked tick made
moved g made (cpu_acts q a) = acted q a made

-- the last move of a past
pub last_move : (g : Group) {past : Past} {e : Event} → IsReachable g (e ∷ past) → IsReachable g past × IsMove g past e
last_move g (clocked tick made) = (made, clock_moves tick)
last_move g (acted q a made) = (made, cpu_acts q a)
