-- How far the processors of a group are in their turns, at a past.
use Rattle.std.specs.Prelude.{◌≡◌, ℕ, Bool, true, not, ◌&&◌, ◌||◌, ◌==◌, List, [], map, Option, None, Some, slice_index_or}
use Rattle.rt_base.specs.declared.CpuNo.{CpuNo}
use Rattle.rt_task.specs.declared.Step.{Step}
use Rattle.rt_rules.specs.Numbers.{has}
use Rattle.rt_model.specs.Group.{Group}
use Rattle.rt_model.specs.Histories.{after}
use Rattle.rt_model.specs.Past.{Past}
use Rattle.rt_plays.specs.Drives as drives
use Rattle.rt_plays.specs.Homes.{IsProcessorOf}
use Rattle.rt_plays.specs.NextSteps.{MayComeNext}
use Rattle.rt_plays.specs.Turns.{turns_begun, steps_since, has_none, had_none}
use Rattle.body_play.specs.declared.turn.Turn.{Turn}
use Rattle.body_play.specs.Turn.{counts_none, has_ended, seen}

-- by the processor's number, and how many turns each has
pub record Turns : Type 0 where
  pub horizon : ℕ
  pub rows : List (Option Turn)

abbrev pub numbers_of : List CpuNo → List ℕ
numbers_of cpus = map (λ (q : CpuNo). q.0) cpus

abbrev pub row_of : List (Option Turn) → ℕ → Option Turn
row_of rows q = slice_index_or rows q None

abbrev pub row_seen : Bool → Option Turn → Option Turn
row_seen none None = None
row_seen none (Some t) = Some (seen t none)

abbrev pub row_ended : ℕ → Option Turn → Bool
row_ended horizon None = true
row_ended horizon (Some t) = has_ended t horizon

-- a processor of the group has such turns, and one of another group none
abbrev pub IsRowOf : Group → ℕ → (Turn → Type 0) → Option Turn → Type 0
IsRowOf g q P None = IsProcessorOf g q → ⊥
IsRowOf g q P (Some t) = IsProcessorOf g q × P t

-- what is kept of a processor is what the definitions give at this past, that its next act was none as far as that counts
pub record IsTurnAt (g : Group) (past : Past) (q : ℕ) (t : Turn) : Type 0 where
  pub begun_is : t.begun ≡ turns_begun q past
  pub since_is : t.since ≡ steps_since q past
  pub none_is : counts_none t.since ≡ true → t.had_none ≡ had_none g q past

pub record AreAt (g : Group) (past : Past) (v : Turns) : Type 0 where
  pub horizon_is : v.horizon ≡ drives.horizon g.setup.drive
  pub rows_are : (q : ℕ) → IsRowOf g q (IsTurnAt g past q) (row_of v.rows q)

-- after a step, as long as only these processors were looked at
pub record IsTurnAfter (g : Group) (past : Past) (step : Step) (qs : List ℕ) (q : ℕ) (t : Turn) : Type 0 where
  pub begun_is : t.begun ≡ turns_begun q (after g step past)
  pub since_is : t.since ≡ steps_since q (after g step past)
  pub none_is : counts_none t.since ≡ true → t.had_none ≡ (has q qs && has_none g q (after g step past))
      || (not (step.cpu.0 == q) && had_none g q past)

pub record AreLooked (g : Group) (past : Past) (step : Step) (qs : List ℕ) (v : Turns) : Type 0 where
  pub horizon_is : v.horizon ≡ drives.horizon g.setup.drive
  pub rows_are : (q : ℕ) → IsRowOf g q (IsTurnAfter g past step qs q) (row_of v.rows q)

-- the step may come next, and was taken
pub record HasTaken (g : Group) (past : Past) (step : Step) (v : Turns) : Type 0 where
  pub home : IsProcessorOf g step.cpu.0
  pub next : MayComeNext g past step
  pub looked : AreLooked g past step [] v
