-- When a job of a task is released, begins, ends, and how it keeps its deadline.
use Rattle.std.specs.Prelude.{ℕ, suc, ◌+◌, ◌-◌, nat_lt, Option, None, Some, if◌then◌else◌, unwrap_or, option_map}
use Rattle.std.specs.Prelude.{ℤ, pos, ◌-ℤ◌}
use Rattle.rt_model.specs.Group.{Group, task}
use Rattle.rt_model.specs.Past.{Past, now, did, is_work, ends_job}
use Rattle.rt_model.specs.Releases.{release_by}
use Rattle.trace_views.specs.JobMoves.{Test, in_job, first_clock, last_clock, or_else}

-- a unit of work of the task, and the end of its current job
abbrev pub works : ℕ → Test
works t e past = is_work (did t e)

abbrev pub ends_now : ℕ → Test
ends_now t e past = ends_job t e

-- how a job came out: it kept its deadline or ended after it; or it has not ended, and its deadline is over or not yet
pub data Outcome : Type 0 where
  kept : Outcome
  late : Outcome
  missed : Outcome
  under_way : Outcome

module _ (g : Group) where
  -- the release of job k, and its deadline, which is the last tick in time
  unfoldable pub release_of : ℕ → ℕ → Past → ℕ
  release_of t k past = unwrap_or (release_by g (task g t).kind t (k - 1) past) 0

  unfoldable pub deadline_of : ℕ → ℕ → Past → ℕ
  deadline_of t k past = release_of t k past + (task g t).rel_deadline

-- the clock of its first unit
unfoldable pub start : ℕ → ℕ → Past → Option ℕ
start t k past = first_clock (in_job t k (works t)) past

-- the clock at which it ended
unfoldable pub end : ℕ → ℕ → Past → Option ℕ
end t k past = last_clock (in_job t k (ends_now t)) past

-- where it has ended: the end of its last unit, and without a unit its end
unfoldable pub last_unit : ℕ → ℕ → Past → Option ℕ
last_unit t k past = last_clock (in_job t k (works t)) past

abbrev pub finish_by : Option ℕ → Option ℕ → Option ℕ
finish_by unit None = None
finish_by unit (Some ended) = or_else (option_map suc unit) (Some ended)

unfoldable pub finish : ℕ → ℕ → Past → Option ℕ
finish t k past = finish_by (last_unit t k past) (end t k past)

abbrev pub outcome_by : Option ℕ → ℕ → ℕ → Outcome
outcome_by None deadline clock = if nat_lt deadline clock then missed else under_way
outcome_by (Some ended) deadline clock = if nat_lt deadline ended then late else kept

-- from one clock to another, below 0 where that is earlier
abbrev pub time_to : ℕ → Option ℕ → Option ℤ
time_to from o = option_map (λ (n : ℕ). pos n -ℤ pos from) o

module _ (g : Group) where
  unfoldable pub outcome : ℕ → ℕ → Past → Outcome
  outcome t k past = outcome_by (end t k past) (deadline_of g t k past) (now past)

  -- from its release to its finish, and from its deadline
  unfoldable pub response : ℕ → ℕ → Past → Option ℤ
  response t k past = time_to (release_of g t k past) (finish t k past)

  unfoldable pub lateness : ℕ → ℕ → Past → Option ℤ
  lateness t k past = time_to (deadline_of g t k past) (finish t k past)
