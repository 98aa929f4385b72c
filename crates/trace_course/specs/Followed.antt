-- A group with entries of it, the steps that may come next there, and how far scripts were followed.
use Rattle.std.specs.Prelude.{◌≡◌, Bool, ℕ, ◌+◌, ◌<◌, ◌≤◌, List, [], ◌∷◌, ◌++◌, length, take, slice_index_or, Option, None, Some}
use Rattle.std.specs.Option.{is_some}
use Rattle.rt_task.specs.declared.Step.{Step}
use Rattle.rt_task.specs.Validity.{IsValid}
use Rattle.rt_rules.specs.declared.history.Entry.{Entry}
use Rattle.rt_model.specs.Group.{Group}
use Rattle.rt_model.specs.Histories.{past_of, reply_to}
use Rattle.rt_plays.specs.Drives.{steps_given}
use Rattle.rt_plays.specs.Homes.{IsProcessorOf}
use Rattle.rt_plays.specs.Plays.{IsBegunPlay}
use Rattle.rt_plays.specs.Scripts.{script, steps_of}
use Rattle.trace_course.specs.declared.scripts.Scripts.{Scripts}
use Rattle.trace_course.specs.Next.{AreFollowing}

-- a group and entries of it
pub record GroupEntries : Type 0 where
  pub group : Group
  pub entries : List Entry

-- the entry that a step makes there, and the entries with it
abbrev pub entry_by : Group → List Entry → Step → Entry
entry_by g es step = record { step = step; reply = reply_to g step (past_of g es) }

abbrev pub longer : GroupEntries → Step → List Entry
longer at step = at.entries ++ entry_by at.group at.entries step ∷ []

-- the step may come next: the play goes on by it
abbrev pub IsNextStep : Group → List Entry → Step → Type 0
IsNextStep g es step = IsBegunPlay g (es ++ entry_by g es step ∷ [])

-- ---- scripts

-- the first steps of a processor that are behind it, and those that its entries took
pub record IsPassed (steps : List Step) (es : List Entry) (q passed : ℕ) : Type 0 where
  pub within : passed ≤ length steps
  pub taken : script (take passed steps) q ≡ script (steps_of es) q

-- the position of a processor among those that are kept
abbrev pub position_in : List (Option ℕ) → ℕ → Option ℕ
position_in positions q = slice_index_or positions q None

abbrev pub has_position : List (Option ℕ) → ℕ → Bool
has_position positions q = is_some (position_in positions q)

-- a processor of the group is at this position, and one of another group has none
abbrev pub IsPositionOf : Group → List Entry → ℕ → Option ℕ → Type 0
IsPositionOf g es q None = IsProcessorOf g q → ⊥
IsPositionOf g es q (Some n) = IsProcessorOf g q × IsPassed (steps_given g.setup.drive) es q n

abbrev pub ArePositions : Group → List Entry → List (Option ℕ) → Type 0
ArePositions g es positions = (q : ℕ) → IsPositionOf g es q (position_in positions q)

-- the scripts were followed so far, by the steps of the group's set
pub record ArePassed (at : GroupEntries) (steps : List Step) (s : Scripts) : Type 0 where
  pub valid : IsValid at.group.setup
  pub positions_are : ArePositions at.group at.entries s.positions.items
  pub following_are : AreFollowing (steps_given at.group.setup.drive) s.following.items
  pub steps_are : steps ≡ steps_given at.group.setup.drive

-- the step is the next one of its processor's script
pub record IsNextOfScript (g : Group) (es : List Entry) (step : Step) : Type 0 where
  pub home : IsProcessorOf g step.cpu.0
  pub more : List Step
  pub next : script (steps_given g.setup.drive) step.cpu.0 ≡ script (steps_of es) step.cpu.0 ++ step ∷ more

-- all the steps of a processor were followed
abbrev pub IsDone : Group → List Entry → ℕ → Type 0
IsDone g es q = script (steps_given g.setup.drive) q ≡ script (steps_of es) q

-- and those of each one of the group
abbrev pub AreDone : Group → List Entry → Type 0
AreDone g es = (q : ℕ) → IsProcessorOf g q → IsDone g es q

-- the position of the step among the set's steps
pub record IsNextPosition (g : Group) (es : List Entry) (step : Step) (j : ℕ) : Type 0 where
  pub next : IsNextOfScript g es step
  pub there : j < length (steps_given g.setup.drive)
  pub step_is : (d : Step) → slice_index_or (steps_given g.setup.drive) j d ≡ step
  pub taken : script (take (j + 1) (steps_given g.setup.drive)) step.cpu.0 ≡ script (steps_of es) step.cpu.0 ++ step ∷ []

-- the step was the next one of its script, and is followed now
pub record HasPassed (at : GroupEntries) (step : Step) (s : Scripts) : Type 0 where
  pub next : IsNextOfScript at.group at.entries step
  pub positions_are : ArePositions at.group (longer at step) s.positions.items
  pub following_are : AreFollowing (steps_given at.group.setup.drive) s.following.items
