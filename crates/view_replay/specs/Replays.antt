-- A group whose steps are taken again, as contracts see it.
use Rattle.std.specs.Prelude.{◌≡◌, ℕ, ◌<◌, ◌≤◌, Bool, ◌∷◌, length, Option, option_map}
use Rattle.rt_base.specs.declared.TaskNo.{TaskNo}
use Rattle.rt_base.specs.declared.TheConstants.{TICK_END}
use Rattle.rt_task.specs.Validity.{IsValid}
use Rattle.rt_model.specs.Group.{Group}
use Rattle.rt_model.specs.Past.{Clock, Past, now}
use Rattle.block_counts.specs.GroupRequests as requests
use Rattle.rank_afresh.specs.Standing as ranker
use Rattle.view_replay.specs.declared.replay.Replay.{Replay}

-- the group, and room for how many more steps
abbrev pub group_of : Replay → Group
group_of r = ranker.group_of r.afresh

abbrev pub spare : Replay → ℕ
spare r = r.afresh.spare

-- the requests are of the same valid group, with room for as many steps and for the tasks that wait; the
-- clock is within the limit
pub record IsWhole (r : Replay) : Type 0 where
  pub valid : IsValid (group_of r).setup
  pub group_is : requests.group_of r.blocks ≡ group_of r
  pub spare_is : r.blocks.spare ≡ r.afresh.spare
  pub waiting_room : length (group_of r).setup.tasks ≤ r.waiting.room
  pub clock_low : r.clock.0 < TICK_END

-- whole steps were taken, which made this past
pub record IsAt (r : Replay) (past : Past) : Type 0 where
  pub whole : IsWhole r
  pub ranked : ranker.IsAt r.afresh past
  pub counted : requests.IsAt r.blocks past
  pub clock_is : r.clock.0 ≡ now past

-- and then the clock was moved to this tick: the first move of the next step
pub record IsMoved (r : Replay) (tick : ℕ) (past : Past) : Type 0 where
  pub whole : IsWhole r
  pub ranked : ranker.IsAt r.afresh (Clock tick ∷ past)
  pub counted : requests.IsAt r.blocks past
  pub clock_is : r.clock.0 ≡ now (Clock tick ∷ past)

-- the task whose job a move ended
abbrev pub ended_number : Option (TaskNo × Bool) → Option ℕ
ended_number o = option_map (λ (x : TaskNo × Bool). x.0.0) o
