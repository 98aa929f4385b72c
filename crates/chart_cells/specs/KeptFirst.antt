-- What is kept of processors and reservations while a column goes on: what the state before the first unit shows, if there is one.
use Rattle.std.specs.Prelude.{ℕ, ◌==◌, List, [], ◌∷◌, Option, None, Some}
use Rattle.rt_model.specs.Group.{Group, clients}
use Rattle.rt_model.specs.Links.{linked}
use Rattle.rt_model.specs.Past.{Past}
use Rattle.rt_model.specs.Reservations.{left}
use Rattle.rt_model.specs.Runs.{runs}
use Rattle.trace_views.specs.Cells.{CpuCell, is_client, playing_by, units_of}
use Rattle.trace_views.specs.Columns.{Column}
use Rattle.trace_views.specs.Moments.{Moment}

-- of the first of some units
abbrev pub of_first : {A : Type 0} → (Moment → A) → List Moment → Option A
of_first shown [] = None
of_first shown (m ∷ ms) = Some (shown m)

module _ (g : Group) where
  -- a processor at one of its units, and in a state in which the column ends
  abbrev pub cpu_at_unit : ℕ → Moment → CpuCell
  cpu_at_unit q m = record { playing = playing_by g (m ∷ []) None; link = linked g q m.before }

  abbrev pub cpu_at_end : ℕ → Past → CpuCell
  cpu_at_end q x = record { playing = playing_by g [] (runs q x); link = linked g q x }

  unfoldable pub kept_cpu : ℕ → Column → Option CpuCell
  kept_cpu q c = of_first (cpu_at_unit q) (units_of (λ (m : Moment). m.act.cpu == q) c)

  unfoldable pub kept_left : ℕ → Column → Option ℕ
  kept_left r c = of_first (λ (m : Moment). left g r m.before) (units_of (λ (m : Moment). is_client g (clients g r) m.act.task) c)
