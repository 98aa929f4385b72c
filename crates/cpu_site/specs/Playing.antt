-- A group whose processors play their scripts, or their turns.
use Rattle.std.specs.Prelude.{◌≡◌, ℕ, ◌+◌, ◌*◌, ◌<◌, true, List, [], ◌∷◌, ◌++◌, length, take, slice_index, slice_index_or}
use Rattle.rt_base.specs.declared.TheConstants.{MOST_CPUS, MOST_TURN_STEPS}
use Rattle.rt_task.specs.declared.Drive.{Drive}
use Rattle.rt_task.specs.declared.Drive.TheVariants.{Steps, Horizon}
use Rattle.rt_task.specs.declared.Parts.{Parts}
use Rattle.rt_task.specs.declared.Step.{Step}
use Rattle.rt_task.specs.Validity.{IsValid}
use Rattle.rt_rules.specs.declared.history.Entry.{Entry}
use Rattle.rt_model.specs.Group.{Group}
use Rattle.rt_model.specs.Histories.{past_of, reply_to}
use Rattle.rt_plays.specs.Drives.{gives_steps}
use Rattle.rt_plays.specs.Groups.{GroupHistory, group_of, past, with_entry, IsGroupOf}
use Rattle.rt_plays.specs.BodyPlays.{has_ended}
use Rattle.rt_plays.specs.Drives.{horizon, steps_given}
use Rattle.rt_plays.specs.NextSteps.{MayComeNext}
use Rattle.rt_plays.specs.Order.{steps_in_group}
use Rattle.rt_plays.specs.Plays.{group_with, IsBegunPlay}
use Rattle.rt_plays.specs.Room.{room}
use Rattle.rt_plays.specs.Scripts.{script, steps_of}
use Rattle.cpu_site.specs.StepChains.{IsPosition, IsNextFrom}
use Rattle.cpu_site.specs.declared.played.Played.{Played}
use Rattle.cpu_site.specs.declared.played.Played.TheVariants as plays
use Rattle.cpu_site.specs.declared.progress.Progress.{Progress}
use Rattle.cpu_site.specs.Turning.{IsAtTurn, IsTurnDone}

-- the step is the next one of its processor, of which so many turns were given as over: the next of its script after those of the entries,
-- or the one that goes on with its next turn or begins it
abbrev pub IsNextBy : Drive → Group → ℕ → ℕ → List Entry → Step → Type 0
IsNextBy (Steps steps) g turns q es s = (more : List Step) × (script steps q ≡ script (steps_of es) q ++ s ∷ more)
IsNextBy (Horizon h) g turns q es s = MayComeNext g (past_of g es) s × (s.tick.0 ≡ turns)

abbrev pub IsNextStep : Group → ℕ → ℕ → List Entry → Step → Type 0
IsNextStep g turns q es s = IsNextBy g.setup.drive g turns q es s

-- no step of the processor is left after the entries: its script was played, or all its turns were, and the last one is over
abbrev pub IsOverBy : Drive → Group → ℕ → List Entry → Type 0
IsOverBy (Steps steps) g q es = script (steps_of es) q ≡ script steps q
IsOverBy (Horizon h) g q es = has_ended g q (past_of g es) ≡ true

abbrev pub IsOver : Group → ℕ → List Entry → Type 0
IsOver g q es = IsOverBy g.setup.drive g q es

-- the processor is so far after the entries; where the set gives steps, it has no turns
abbrev pub IsFarBy : Drive → Group → ℕ → List Entry → Progress → Type 0
IsFarBy (Steps steps) g q es at = at.turns ≡ 0
IsFarBy (Horizon h) g q es at = IsAtTurn g q (past_of g es) at

abbrev pub IsFar : Group → ℕ → List Entry → Progress → Type 0
IsFar g q es at = IsFarBy g.setup.drive g q es at

-- the entry may come next: its step is the next one of the processor, and its reply is the one that the definitions give
pub record IsNextEntry (h : GroupHistory) (turns q : ℕ) (e : Entry) : Type 0 where
  pub own : e.step.cpu.0 ≡ q
  pub next : IsNextStep (group_of h) turns q h.entries e.step
  pub reply : e.reply ≡ reply_to (group_of h) e.step (past h)

-- what a play of a processor comes to: its next entry, or a turn that is over, or no step is left and all turns were given as over
abbrev pub IsOutcome : GroupHistory → ℕ → Progress → Played → GroupHistory → Progress → Type 0
IsOutcome h q at (plays.Did e) h' at' = IsNextEntry h at.turns q e × (h' ≡ with_entry e h) × (at'.turns ≡ at.turns)
IsOutcome h q at plays.TurnOver h' at' = IsTurnDone (group_of h) q at.turns (past h) × (h' ≡ h) × (at'.turns ≡ at.turns + 1)
IsOutcome h q at plays.Ended h' at' = IsOver (group_of h) q h.entries × (at.turns ≡ horizon h.setup.drive) × (h' ≡ h) × (at' ≡ at)

-- how many entries a group of so many processors can have at most, where so many of the steps are its own
abbrev pub room_in : Drive → ℕ → ℕ → ℕ
room_in (Steps given) steps cpus = steps
room_in (Horizon h) steps cpus = h * cpus * MOST_TURN_STEPS

-- a group before its first step, with room for its steps
abbrev pub unplayed : Parts → ℕ → GroupHistory
unplayed p n = record { setup = p; group = n; entries = []; spare = room (group_with p n) }

-- the group is one of a valid set
pub record IsPlayable (p : Parts) (n : ℕ) : Type 0 where
  pub valid : IsValid p
  pub there : IsGroupOf p n

-- the steps of the processor that were played are those before a position, at which its next one stands
pub record IsPlayedTo (steps : List Step) (es : List Entry) (q j : ℕ) : Type 0 where
  pub position : IsPosition steps q j
  pub played : script (steps_of es) q ≡ script (take j steps) q

-- the history is a play as far as it goes, with room for the steps that are left; where the set gives steps, the positions are those of the
-- next ones
pub record IsPlaying (h : GroupHistory) (p : Parts) (steps : List Step) (positions nexts : List ℕ) : Type 0 where
  pub playable : IsPlayable h.setup h.group
  pub setup_is : p ≡ h.setup
  pub steps_are : steps ≡ steps_in_group (group_of h) (steps_given h.setup.drive)
  pub begun : IsBegunPlay (group_of h) h.entries
  pub room_is : length h.entries + h.spare ≡ room (group_of h)
  pub all_cpus : length positions ≡ MOST_CPUS
  pub all_steps : length nexts ≡ length steps
  pub at : gives_steps h.setup.drive ≡ true → (q : ℕ) → q < MOST_CPUS → IsPlayedTo steps h.entries q (slice_index positions q)
  pub next : (i : ℕ) (d : Step) → i < length steps → IsNextFrom steps (slice_index_or steps i d).cpu.0 (i + 1) (slice_index nexts i)
