-- What is so in one column: of a task, of a processor and of a reservation.
use Rattle.std.specs.Prelude.{ℕ, ◌+◌, Bool, false, not, ◌&&◌, List, [], ◌∷◌, map, reverse, filter, Option, None, Some, if◌then◌else◌}
use Rattle.std.specs.Prelude.{is_some}
use Rattle.std.specs.Prelude.{◌==◌}
use Rattle.rt_rules.specs.declared.Key.{Key}
use Rattle.rt_rules.specs.Numbers.{has, is}
use Rattle.rt_model.specs.BaseKeys.{base_key}
use Rattle.rt_model.specs.Blocking.{is_blocked}
use Rattle.rt_model.specs.EffectiveKeys.{effective_key}
use Rattle.rt_model.specs.Group.{Group, clients, group_processors}
use Rattle.rt_model.specs.Holders.{awaits, holds}
use Rattle.rt_model.specs.Jobs.{done}
use Rattle.rt_model.specs.Links.{linked}
use Rattle.rt_model.specs.NonPreemptive.{non_preemptive}
use Rattle.rt_model.specs.Past.{Past}
use Rattle.rt_model.specs.Releases.{exists}
use Rattle.rt_model.specs.Reservations.{left}
use Rattle.rt_model.specs.Runs.{runs}
use Rattle.rt_model.specs.Sleep.{sleeps}
use Rattle.trace_views.specs.Columns.{Column}
use Rattle.trace_views.specs.Moments.{Moment, is_unit, first_where}

-- what a task does in a column: it works on processors, in order; it waits for a semaphore, priority-blocked or not; it sleeps; it
-- runs on processors and does no unit; its job is there; or there is none
pub data Doing : Type 0 where
  works : List ℕ → Doing
  blocked : ℕ → Doing
  waits : ℕ → Doing
  sleeping : Doing
  running : List ℕ → Doing
  ready : Doing
  away : Doing

pub record TaskCell : Type 0 where
  pub doing : Doing
  -- the number of its job; what that holds; whether it is non-preemptive, and whether its key is raised by a semaphore
  pub job : ℕ
  pub held : List ℕ
  pub non_preemptive : Bool
  pub raised : Bool

-- what a processor does: it works for a task; it runs one and does no unit; or nothing
pub data Playing : Type 0 where
  works_for : ℕ → Playing
  runs_task : ℕ → Playing
  idle : Playing

pub record CpuCell : Type 0 where
  pub playing : Playing
  pub link : Option ℕ

abbrev pub same_key : Key → Key → Bool
same_key a b = a.band == b.band && (a.major == b.major && a.minor == b.minor)

-- the newest of states, and the state before the oldest of units
abbrev pub newest : List Past → Past
newest [] = []
newest (p ∷ ps) = p

abbrev pub units_of : (Moment → Bool) → Column → List Moment
units_of test c = reverse (filter (λ m. is_unit m && test m) c.acts)

abbrev pub before_first : List Moment → Past → Past
before_first [] otherwise = otherwise
before_first (m ∷ ms) otherwise = m.before

module _ (g : Group) where
  -- a processor's cell
  abbrev pub playing_by : List Moment → Option ℕ → Playing
  playing_by [] (Some t) = runs_task t
  playing_by [] None = idle
  playing_by (m ∷ ms) o = playing_of m.act.task
    where
      playing_of : Option ℕ → Playing
      playing_of (Some t) = works_for t
      playing_of None = idle

  unfoldable pub cpu_cell : ℕ → Column → CpuCell
  cpu_cell q c =
      let done_here = units_of (λ (m : Moment). m.act.cpu == q) c in
      record {
        playing = playing_by done_here (runs q (newest c.states));
        link = linked g q (before_first done_here (newest c.states));
      }

  abbrev pub runs_no_unit : ℕ → Playing → Bool
  runs_no_unit t (runs_task u) = t == u
  runs_no_unit t _ = false

  -- the processors of the group whose cells say that they run the task and do no unit
  unfoldable pub running_on : ℕ → Column → List ℕ
  running_on t c = filter (λ q. runs_no_unit t (cpu_cell q c).playing) (group_processors g)

  -- a task's cell: what it does, seen in a state
  unfoldable pub cell_at : Doing → ℕ → Past → TaskCell
  cell_at doing t x = record {
    doing = doing;
    job = done t x + 1;
    held = holds g t x;
    non_preemptive = non_preemptive t x;
    raised = not (same_key (effective_key g t x) (base_key g t x));
  }

  abbrev pub cell_away : TaskCell
  cell_away = record { doing = away; job = 0; held = []; non_preemptive = false; raised = false }

  abbrev pub waiting : ℕ → Past → Option ℕ → Doing
  waiting t x None = ready
  waiting t x (Some s) = if is_blocked g t x then blocked s else waits s

  abbrev pub there : List ℕ → Doing
  there [] = ready
  there (q ∷ qs) = running (q ∷ qs)

  abbrev pub cell_by : ℕ → Column → List Moment → Option Past → Option Past → Option Past → TaskCell
  cell_by t c (m ∷ ms) waits_in sleeps_in is_in =
      cell_at (works (map (λ (u : Moment). u.act.cpu) (m ∷ ms))) t m.before
  cell_by t c [] (Some x) sleeps_in is_in = cell_at (waiting t x (awaits g t x)) t x
  cell_by t c [] None (Some x) is_in = cell_at sleeping t x
  cell_by t c [] None None (Some x) = cell_at (there (running_on t c)) t x
  cell_by t c [] None None None = cell_away

  unfoldable pub task_cell : ℕ → Column → TaskCell
  task_cell t c =
      cell_by t c (units_of (λ (m : Moment). is t m.act.task) c)
      (first_where (λ x. is_some (awaits g t x)) c.states)
      (first_where (λ x. sleeps t x) c.states)
      (first_where (λ x. exists g t x) c.states)

  -- what is left of a reservation
  abbrev pub is_client : List ℕ → Option ℕ → Bool
  is_client ts None = false
  is_client ts (Some t) = has t ts

  unfoldable pub resv_cell : ℕ → Column → ℕ
  resv_cell r c = left g r (before_first (units_of (λ (m : Moment). is_client (clients g r) m.act.task) c) (newest c.states))
