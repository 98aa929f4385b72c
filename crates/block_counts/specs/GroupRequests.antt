-- The requests of one group so far, as contracts see them.
use Rattle.std.specs.Prelude.{◌≡◌, ℕ, ◌+◌, ◌<◌, ◌≤◌, List, All, length, Option, Some}
use Rattle.rt_base.specs.declared.TheConstants.{MOST_STEPS}
use Rattle.rt_task.specs.declared.Act.{Act}
use Rattle.rt_task.specs.declared.Act.TheVariants as acts
use Rattle.rt_task.specs.declared.Op.TheVariants as ops
use Rattle.rt_task.specs.declared.Parts.{Parts}
use Rattle.rt_task.specs.Validity.{IsValid}
use Rattle.rt_rules.specs.declared.history.Entry.{Entry}
use Rattle.rt_rules.specs.SemState.{Frees}
use Rattle.rt_model.specs.Group.{Group}
use Rattle.rt_model.specs.Histories.{clock_moved, reply_to}
use Rattle.rt_model.specs.Past.{Past, entries_in}
use Rattle.rt_model.specs.Runs.{runs}
use Rattle.rt_changes.specs.CountLaws.{act_of}
use Rattle.rt_changes.specs.Tallies.{AreWaiters, Tally, Waiter, tallies}
use Rattle.block_counts.specs.Bounding.{IsSemOf, IsTaskOf}
use Rattle.block_counts.specs.Positions.{ArePositions, IsFew}

-- a group of a setup, its requests so far, how many entries were fed and room for how many more
pub record GroupRequests : Type 0 where
  pub setup : Parts
  pub group : ℕ
  pub tallies : List Tally
  pub entries : ℕ
  pub spare : ℕ

-- the group whose requests these are
abbrev pub group_of : GroupRequests → Group
group_of b = record { setup = b.setup; number = b.group }

-- the requests are those of this past
pub record IsAt (b : GroupRequests) (past : Past) : Type 0 where
  pub tallies_are : b.tallies ≡ tallies (group_of b) past
  pub entries_are : b.entries ≡ entries_in past

-- the task that runs and the semaphore that a Lock names are of the set
abbrev pub NamesKnown : Parts → Act → Option ℕ → Type 0
NamesKnown p (acts.Do (ops.Lock s)) (Some t) = IsTaskOf p t × IsSemOf p s.0
NamesKnown p _ _ = Unit {0}

-- an entry after this past: its reply is the definitions', and between the two moves of its step its processor runs this task and these
-- tasks wait for the semaphore that it frees
pub record IsBetween (b : GroupRequests) (past : Past) (e : Entry) (running : Option ℕ) (ws : List Waiter) : Type 0 where
  pub reply_is : e.reply ≡ reply_to (group_of b) e.step past
  pub runs_is : running ≡ runs e.step.cpu.0 (clock_moved e.step past)
  pub waiting : (t s : ℕ) → act_of (group_of b) e.step past ≡ Frees t s → AreWaiters (group_of b) s (clock_moved e.step past) ws

-- what is kept at all times: the position of each task's newest request, numbers below the next entry's, counts of no more than the
-- entries fed, and room for the entries to come
pub record IsFit (p : Parts) (xs : List Tally) (positions : List (Option ℕ)) (room entries spare : ℕ) : Type 0 where
  pub valid : IsValid p
  pub positions_are : ArePositions xs positions
  pub positions_length : length positions ≡ length p.tasks + 1
  pub numbered : All (λ (x : Tally). x.no < entries) xs
  pub few : All (IsFew entries) xs
  pub short : length xs ≤ entries
  pub has_room : length xs + spare ≤ room
  pub limit : entries + spare ≤ MOST_STEPS
