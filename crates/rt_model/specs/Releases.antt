-- Releases of periodic and sporadic tasks, and whether a task's current job is there (the sporadic task model, with early releasing).
use Rattle.std.specs.Prelude.{ℕ, ◌+◌, Bool, false, not, ◌&&◌, ◌||◌, ◌==◌, nat_le, List, [], ◌∷◌, Option, None, Some, if◌then◌else◌, ◌*◌}
use Rattle.std.specs.Prelude.{nat_lt, ◌++◌, slice_get, unwrap_or}
use Rattle.rt_task.specs.declared.Act.{Act}
use Rattle.rt_task.specs.declared.Kind.{Kind}
use Rattle.rt_task.specs.declared.Kind.TheVariants.{Periodic, Sporadic}
use Rattle.rt_task.specs.declared.Act.TheVariants as acts
use Rattle.rt_model.specs.Group.{Group, task}
use Rattle.rt_model.specs.Jobs.{done}
use Rattle.rt_model.specs.Past.{Past, now, accepted, Clock, Acted}
use Rattle.rt_model.specs.Sleep.{sleeps}

-- the clocks of a sporadic task's accepted arrivals, in order
abbrev pub arrives : ℕ → Act → Bool
arrives t (acts.Arrive u) = t == u.0
arrives t _ = false

unfoldable pub arrivals : ℕ → Past → List ℕ
arrivals t [] = []
arrivals t (Clock tick ∷ past) = arrivals t past
arrivals t (Acted d ∷ past) = if arrives t d.act && accepted d.reply then arrivals t past ++ now past ∷ [] else arrivals t past

-- whether a moment has come
abbrev pub has_come : ℕ → Option ℕ → Bool
has_come clock None = false
has_come clock (Some r) = nat_le r clock

module _ (g : Group) where
  -- the release of the task's job number k + 1: a periodic task's jobs come a period apart, a sporadic one's as they arrive
  unfoldable pub release_by : Kind → ℕ → ℕ → Past → Option ℕ
  release_by Periodic t k past = Some ((task g t).phase + k * (task g t).period)
  release_by Sporadic t k past = slice_get (arrivals t past) k

  -- the release of the current job, and its deadline
  unfoldable pub release : ℕ → Past → Option ℕ
  release t past = release_by (task g t).kind t (done t past) past

  unfoldable pub deadline : ℕ → Past → ℕ
  deadline t past = unwrap_or (release t past) 0 + (task g t).rel_deadline

  -- the current job is there from its release on; that of an early task that has ended a job is open early until then
  unfoldable pub is_released : ℕ → Past → Bool
  is_released t past = has_come (now past) (release t past)

  unfoldable pub opens_early : ℕ → Past → Bool
  opens_early t past = (task g t).early && (nat_lt 0 (done t past) && not (is_released t past))

  unfoldable pub exists : ℕ → Past → Bool
  exists t past = is_released t past || opens_early t past

  -- the current job is there and does not sleep
  unfoldable pub ready : ℕ → Past → Bool
  ready t past = exists t past && not (sleeps t past)
