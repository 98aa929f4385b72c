-- What drives the entries of a group: the scripts of its processors, or their turns.
use Rattle.std.specs.Prelude.{◌≡◌, ℕ, ◌*◌, true, false, List, [], count_by, if◌then◌else◌, None, Some}
use Rattle.rt_base.specs.declared.CpuNo.{CpuNo}
use Rattle.rt_base.specs.declared.TheConstants.{MOST_TURN_STEPS}
use Rattle.rt_task.specs.declared.Drive.{Drive}
use Rattle.rt_task.specs.declared.Drive.TheVariants as drives
use Rattle.rt_task.specs.declared.Parts.{Parts}
use Rattle.rt_task.specs.declared.Step.{Step}
use Rattle.rt_task.specs.Validity.{IsValid}
use Rattle.rt_rules.specs.declared.history.Entry.{Entry}
use Rattle.rt_rules.specs.Numbers.{has}
use Rattle.rt_model.specs.Group.{Group, group_processors}
use Rattle.rt_model.specs.Histories.{after, past_of}
use Rattle.rt_plays.specs.Drives.{horizon, steps_given}
use Rattle.rt_plays.specs.Plays.{IsBegunPlay}
use Rattle.rt_plays.specs.Drives.{gives_steps}
use Rattle.rank_afresh.specs.Standing.{IsAt, Standing, group_of}
use Rattle.body_play.specs.Turns.{AreAt, AreLooked, numbers_of}
use Rattle.trace_course.specs.declared.course.Course.{Course}
use Rattle.trace_course.specs.declared.course.Course.TheVariants.{Scripts, Turns}
use Rattle.trace_course.specs.Next.{AreFollowing}
use Rattle.trace_course.specs.Followed.{ArePositions, IsNextStep, GroupEntries, has_position, longer, position_in}

-- before the first step, of these processors
abbrev pub IsOpened : Drive → List CpuNo → Course → Type 0
IsOpened (drives.Steps steps) cpus (Scripts s) =
    ((q : ℕ) → position_in s.positions.items q ≡ (if has q (numbers_of cpus) then Some 0 else None)) × AreFollowing steps s.following.items
IsOpened (drives.Horizon h) cpus (Turns v) = (g : Group) → numbers_of cpus ≡ group_processors g → horizon g.setup.drive ≡ h → AreAt g [] v
IsOpened _ cpus _ = ⊥

-- how many entries so many processors can have at most
abbrev pub room_in : Drive → ℕ → Course → ℕ
room_in drive cpus (Scripts s) = count_by (λ (x : Step). has_position s.positions.items x.cpu.0) (steps_given drive)
room_in drive cpus (Turns v) = horizon drive * cpus * MOST_TURN_STEPS

-- these entries were followed
abbrev pub IsCourse : Group → List Entry → Course → Type 0
IsCourse g es (Scripts s) =
    (gives_steps g.setup.drive ≡ true) × ArePositions g es s.positions.items × AreFollowing (steps_given g.setup.drive) s.following.items
IsCourse g es (Turns v) = (gives_steps g.setup.drive ≡ false) × AreAt g (past_of g es) v

-- a step was taken, and in a body run no processor was looked at since then
abbrev pub IsGone : GroupEntries → Step → Course → Type 0
IsGone at step (Scripts s) =
    (gives_steps at.group.setup.drive ≡ true) × ArePositions at.group (longer at step) s.positions.items
    × AreFollowing (steps_given at.group.setup.drive) s.following.items
IsGone at step (Turns v) = (gives_steps at.group.setup.drive ≡ false) × AreLooked at.group (past_of at.group at.entries) step [] v

-- the step may come next, and was taken
pub record HasGone (at : GroupEntries) (step : Step) (c : Course) : Type 0 where
  pub next : IsNextStep at.group at.entries step
  pub gone : IsGone at step c

-- the entries of a play were followed
pub record IsOnCourse (at : GroupEntries) (p : Parts) (c : Course) : Type 0 where
  pub valid : IsValid at.group.setup
  pub setup_is : p ≡ at.group.setup
  pub begun : IsBegunPlay at.group at.entries
  pub course_is : IsCourse at.group at.entries c

-- and the ranker stands behind them
pub record CanTake (at : GroupEntries) (p : Parts) (v : Standing) (c : Course) : Type 0 where
  pub on_course : IsOnCourse at p c
  pub group_is : group_of v ≡ at.group
  pub stands : IsAt v (past_of at.group at.entries)

-- the ranker stands behind a step that was taken
pub record CanLook (at : GroupEntries) (step : Step) (p : Parts) (v : Standing) (cpus : List CpuNo) : Type 0 where
  pub setup_is : p ≡ at.group.setup
  pub group_is : group_of v ≡ at.group
  pub stands : IsAt v (after at.group step (past_of at.group at.entries))
  pub cpus_are : numbers_of cpus ≡ group_processors at.group
