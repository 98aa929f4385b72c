-- A task's cell as it is kept while its column goes on: what each state and each unit makes of it.
use Rattle.std.specs.Prelude.{ℕ, nat_lt, List, [], ◌∷◌, ◌++◌, map, Option, None, Some, if◌then◌else◌}
use Rattle.rt_rules.specs.Numbers.{is}
use Rattle.rt_model.specs.Group.{Group}
use Rattle.rt_model.specs.Holders.{awaits}
use Rattle.rt_model.specs.Past.{Past}
use Rattle.rt_model.specs.Releases.{exists}
use Rattle.rt_model.specs.Sleep.{sleeps}
use Rattle.trace_views.specs.Cells.{Doing, TaskCell, cell_at, cell_away, units_of, waiting}
use Rattle.trace_views.specs.Cells as cells
use Rattle.trace_views.specs.Columns.{Column}
use Rattle.trace_views.specs.Moments.{Moment}

-- of what is so in a column the greatest is shown
abbrev pub rank : Doing → ℕ
rank (cells.works qs) = 4
rank (cells.blocked s) = 3
rank (cells.waits s) = 3
rank cells.sleeping = 2
rank (cells.running qs) = 1
rank cells.ready = 1
rank cells.away = 0

-- a cell stays unless a later state has a greater one
abbrev pub later : TaskCell → TaskCell → TaskCell
later kept seen = if nat_lt (rank kept.doing) (rank seen.doing) then seen else kept

-- a unit on a processor, done in a state that shows the task so
abbrev pub with_unit : ℕ → TaskCell → TaskCell → TaskCell
with_unit q before kept = by_doing kept.doing
  where
    by_doing : Doing → TaskCell
    by_doing (cells.works qs) = record kept { doing = cells.works (qs ++ (q ∷ [])) }
    by_doing _ = record before { doing = cells.works (q ∷ []) }

-- at the end of the column the processors are known whose cells say that they run the task
abbrev pub finished : List ℕ → TaskCell → TaskCell
finished [] kept = kept
finished (q ∷ qs) kept = by_doing kept.doing
  where
    by_doing : Doing → TaskCell
    by_doing cells.ready = record kept { doing = cells.running (q ∷ qs) }
    by_doing _ = kept

module _ (g : Group) (t : ℕ) where
  -- what a state alone shows of the task, by the semaphore that it waits for there
  abbrev pub seen_as : Past → Option ℕ → TaskCell
  seen_as x (Some s) = cell_at g (waiting g t x (Some s)) t x
  seen_as x None =
      if sleeps t x then cell_at g cells.sleeping t x else (if exists g t x then cell_at g cells.ready t x else cell_away g)

  abbrev pub state_cell : Past → TaskCell
  state_cell x = seen_as x (awaits g t x)

  -- what states show together, newest first
  unfoldable pub cell_of_states : List Past → TaskCell
  cell_of_states [] = cell_away g
  cell_of_states (x ∷ ps) = later (cell_of_states ps) (state_cell x)

  abbrev pub with_units : List Moment → TaskCell → TaskCell
  with_units [] kept = kept
  with_units (m ∷ ms) kept = cell_at g (cells.works (map (λ (u : Moment). u.act.cpu) (m ∷ ms))) t m.before

  -- the cell that is kept of a column so far
  unfoldable pub kept_cell : Column → TaskCell
  kept_cell c = with_units (units_of (λ (m : Moment). is t m.act.task) c) (cell_of_states c.states)
