-- What looking at a task rests on holds of each task of the group.
use Rattle.std.proofs.Common.{◌≡◌, ℕ, ◌-◌, ◌<◌, ◌≤◌, true, length, refl, sym, subst, arith}
use Rattle.rt_base.specs.declared.TheConstants.{MOST_STEPS}
use Rattle.rt_task.specs.Validity.{IsValid}
use Rattle.rt_rules.specs.Numbers.{has}
use Rattle.rt_model.specs.Group.{Group, home, task, tasks}
use Rattle.rt_model.specs.Past.{Past}
use Rattle.rt_plays.specs.Limits.{IsTaskInLimits}
use Rattle.rt_plays.specs.AtHome.{IsHomeTask}
use Rattle.group_jobs.specs.Kept.{Kept}
use Rattle.group_jobs.specs.GroupJobs.{IsTaskOf, task_in}
use Rattle.group_sems.specs.GroupSems.{GroupSems}
use Rattle.group_sems.specs.Telling.{HasBase}
use Rattle.cluster_table.specs.Table.{HasTask}
use Rattle.group_core.proofs.Words.{at_home, limits-of}
use Rattle.group_core.specs.Facts.{WithRoom}
use Rattle.group_core.specs.Reads.{AreBased, CanRead}
use Rattle.group_core.specs.Standing as core
use Rattle.group_core.proofs.Bases.{have-bases}
use Rattle.group_core.proofs.Reading.{is-task}
use Rattle.group_engine.specs.declared.state.GroupState.{GroupState}
use Rattle.group_engine.specs.State.{HasClusterAt, IsAt}
use Rattle.group_engine.specs.inside.Touching.{CanUpdate, home_in}

module _ (g : Group) (valid : IsValid g.setup) (t : ℕ) (h : has t (tasks g) ≡ true) where
  own : IsHomeTask g t
  own = at_home g valid t h

  pub number-is : (task_in g.setup.tasks t).number.0 ≡ t
  number-is = let l : IsTaskInLimits t (length g.setup.clusters) (task_in g.setup.tasks t) = limits-of g valid t h in l.number_is

  -- it is one of the tasks of which jobs are kept
  pub task-of : (acts : ℕ) (k : Kept) → acts ≤ MOST_STEPS → CanRead acts g.setup k → IsTaskOf k g.setup.tasks t
  task-of acts k few read = is-task acts g.setup k read t own.low own.high few g.setup.tasks refl

  -- its base key was told
  pub has-base : (k : Kept) (v : GroupSems) → AreBased g.setup k v → HasBase v.waits.bases t
  has-base k v based = have-bases g.setup k v based t own.low own.high

  home-is : home_in g.setup t ≡ home g t
  unfolding home task
  home-is = refl

  -- its cluster is where its row says
  pub at-home-in : (s : GroupState) → HasTask s.clusters (home g t) t → HasTask s.clusters (home_in g.setup t) t
  at-home-in s there = subst (λ c. HasTask s.clusters c t) (sym home-is) there

  -- it can be looked at
  pub can_update : (acts : ℕ) (s : GroupState) → acts ≤ MOST_STEPS → CanRead acts g.setup s.core.facts.kept → AreBased g.setup s.core.facts.kept s.core.facts.sems
      → t < length s.timers → HasTask s.clusters (home g t) t → CanUpdate g.setup t s
  can_update acts s few read based room there = record {
    task = task-of acts s.core.facts.kept few read;
    has_base = has-base s.core.facts.kept s.core.facts.sems based;
    timer_room = room;
    at_home = at-home-in s there;
  }

-- each task of the group can be looked at once a move is written down
pub can-look : (g : Group) (past : Past) (s : GroupState) → IsAt g past s → (x : WithRoom) (room spare : ℕ) → core.IsFit g x.facts room spare
    → (t : ℕ) → has t (tasks g) ≡ true → CanUpdate g.setup t (record s { core = x })
can-look g past s at x room spare fit t h =
    let home_of : IsHomeTask g t = at_home g fit.valid t h in
    let was : HasClusterAt g (home g t) past s.clusters = at.clusters_are (home g t) home_of.cluster_there in
    let there : HasTask s.clusters (home g t) t = (was.cluster, was.there, omega (arith, was.is_at.room, home_of.high)) in
    can_update g fit.valid t h (MOST_STEPS - spare) (record s { core = x }) (omega arith) fit.read fit.based (at.timers_are.room t h) there
