-- The law of what is kept of processors and reservations: it follows the units of a column, and in the end gives the cells.
use Rattle.std.specs.Prelude.{◌≡◌, ℕ, ◌&&◌, ◌==◌, true, false, Option, Some, unwrap_or}
use Rattle.rt_model.specs.Group.{Group, clients}
use Rattle.rt_model.specs.Past.{Past}
use Rattle.rt_model.specs.Reservations.{left}
use Rattle.trace_views.specs.Cells.{cpu_cell, is_client, newest, resv_cell}
use Rattle.trace_views.specs.Columns.{Column}
use Rattle.trace_views.specs.Moments.{Moment, is_unit}
use Rattle.chart_cells.specs.KeptFirst.{cpu_at_end, cpu_at_unit, kept_cpu, kept_left}
use Rattle.chart_cells.specs.KeptLaws.{with_act, with_state}

-- what is kept stays, once something is
abbrev pub unless_kept : {A : Type 0} → Option A → A → Option A
unless_kept o x = Some (unwrap_or o x)

pub record CpuFollows (g : Group) (q : ℕ) (c : Column) : Type 0 where
  pub states : (x : Past) → kept_cpu g q (with_state x c) ≡ kept_cpu g q c
  pub units : (m : Moment) → is_unit m && m.act.cpu == q ≡ true
      → kept_cpu g q (with_act m c) ≡ unless_kept (kept_cpu g q c) (cpu_at_unit g q m)
  pub others : (m : Moment) → is_unit m && m.act.cpu == q ≡ false → kept_cpu g q (with_act m c) ≡ kept_cpu g q c
  pub ends : cpu_cell g q c ≡ unwrap_or (kept_cpu g q c) (cpu_at_end g q (newest c.states))

pub record LeftFollows (g : Group) (r : ℕ) (c : Column) : Type 0 where
  pub states : (x : Past) → kept_left g r (with_state x c) ≡ kept_left g r c
  pub units : (m : Moment) → is_unit m && is_client g (clients g r) m.act.task ≡ true
      → kept_left g r (with_act m c) ≡ unless_kept (kept_left g r c) (left g r m.before)
  pub others : (m : Moment) → is_unit m && is_client g (clients g r) m.act.task ≡ false → kept_left g r (with_act m c) ≡ kept_left g r c
  pub ends : resv_cell g r c ≡ unwrap_or (kept_left g r c) (left g r (newest c.states))

-- What is kept of a processor and of a reservation changes by the first unit of the column alone, and with the state in which the column
-- ends it is their cells.
pub record FirstUnitsAreKept : Type 0 where
  pub cpus : (g : Group) (q : ℕ) (c : Column) → CpuFollows g q c
  pub lefts : (g : Group) (r : ℕ) (c : Column) → LeftFollows g r c
