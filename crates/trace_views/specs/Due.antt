-- How many jobs of a task are released by a clock, and how many have their deadline before one.
use Rattle.std.specs.Prelude.{ℕ, ◌+◌, ◌-◌, ◌/◌, nat_le, nat_lt, min, count_by, if◌then◌else◌}
use Rattle.rt_task.specs.declared.Kind.{Kind}
use Rattle.rt_task.specs.declared.Kind.TheVariants.{Periodic, Sporadic}
use Rattle.rt_model.specs.Group.{Group, task}
use Rattle.rt_model.specs.Past.{Past, now}
use Rattle.rt_model.specs.Releases.{arrivals}

module _ (g : Group) where
  -- of a sporadic task those that have arrived
  unfoldable pub released_at : Kind → ℕ → ℕ → Past → ℕ
  released_at Periodic t clock past =
      if nat_le (task g t).phase clock then (clock - (task g t).phase) / (task g t).period + 1 else 0
  released_at Sporadic t clock past = count_by (λ r. nat_le r clock) (arrivals t past)

  unfoldable pub released_by : ℕ → ℕ → Past → ℕ
  released_by t clock past = released_at (task g t).kind t clock past

  -- of the jobs that are released by now; a deadline is the last tick in time
  unfoldable pub due_before : ℕ → ℕ → Past → ℕ
  due_before t clock past =
      if nat_lt (task g t).rel_deadline clock
      then released_by t (min (clock - ((task g t).rel_deadline + 1)) (now past)) past
      else 0
