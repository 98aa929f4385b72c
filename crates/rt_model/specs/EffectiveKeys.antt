-- Priority inheritance (Sha, Rajkumar and Lehoczky, IEEE Transactions on Computers, 1990): effective keys, along walks from
-- waiting tasks to those that they wait for.
use Rattle.std.specs.Prelude.{ℕ, Option, None, Some}
use Rattle.rt_task.specs.declared.Protocol.{Protocol}
use Rattle.rt_task.specs.declared.Protocol.TheVariants.{Pcp}
use Rattle.rt_rules.specs.declared.Key.{Key}
use Rattle.rt_rules.specs.Walks.{followers, inherited}
use Rattle.rt_model.specs.BaseKeys.{base_key}
use Rattle.rt_model.specs.Blockers.{blocker}
use Rattle.rt_model.specs.Boosts.{boost}
use Rattle.rt_model.specs.Group.{Group, tasks, protocol}
use Rattle.rt_model.specs.Holders.{holder, awaits}
use Rattle.rt_model.specs.Past.{Past}

module _ (g : Group) where
  -- whom a task waits for: the holder of the semaphore, under PCP its blocker
  unfoldable pub next_by : Protocol → ℕ → ℕ → Past → Option ℕ
  next_by Pcp s t past = blocker g t past
  next_by _ s t past = holder g s past

  unfoldable pub next_at : ℕ → Option ℕ → Past → Option ℕ
  next_at t None past = None
  next_at t (Some s) past = next_by (protocol g s) s t past

  unfoldable pub waits_for : ℕ → Past → Option ℕ
  waits_for t past = next_at t (awaits g t past) past

  -- the boost, or the highest base key among the task's own and those of the tasks from which a walk leads to it
  unfoldable pub effective_key : ℕ → Past → Key
  effective_key t past = inherited (boost g t past) (λ u. base_key g u past) (followers (λ u. waits_for u past) (tasks g) t) t
