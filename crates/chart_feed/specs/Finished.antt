-- A task's row whose columns are over, with what its marks are made of.
use Rattle.std.specs.Prelude.{◌≡◌, ℕ, suc, ◌<◌, ◌≤◌, ◌⊎◌, List, [], ◌∷◌, map, ⊤}
use Rattle.rt_task.specs.declared.Task.{Task}
use Rattle.rt_model.specs.Group as groups
use Rattle.rt_model.specs.Group.{Group}
use Rattle.rt_model.specs.Past.{Acted, Clock, Past, now}
use Rattle.trace_views.specs.Columns.{Column}
use Rattle.chart_feed.specs.Clocks.{ClocksKept, clocks_of}
use Rattle.chart_rows.specs.Rows.{TaskKept, task_kept}
use Rattle.chart_rows.specs.Strips.{blank, strip_of}
use Rattle.chart_feed.specs.Times.{Edges, edges_of, end_clocks, up_to}

-- no job ends at a clock after the column's last one and before the next column; and either that has begun, or the column is the last
pub record IsTimed (t : ℕ) (past : Past) (e : Edges) : Type 0 where
  pub quiet : (clock : ℕ) → e.high ≤ clock → clock < e.next → up_to clock (end_clocks t past) ≡ up_to e.high (end_clocks t past)
  pub follows : (e.next ≤ now past) ⊎ ((e.next ≡ suc e.high) × (now past ≤ e.high))

abbrev pub AreTimed : ℕ → Past → List Column → Type 0
AreTimed t past [] = ⊤
AreTimed t past (c ∷ cs) = IsTimed t past (edges_of c) × AreTimed t past cs

-- a past of whole steps ends in an act
abbrev pub EndsInAct : Past → Type 0
EndsInAct [] = ⊤
EndsInAct (Clock tick ∷ past) = ⊥
EndsInAct (Acted d ∷ past) = ⊤

pub record IsFinished (g : Group) (past : Past) (cs : List Column) (row : TaskKept) (task : Task) (clocks : ClocksKept) (clock : ℕ)
    (edges : List Edges) : Type 0 where
  pub row_is : row ≡ task_kept g (map strip_of cs) blank row.task
  pub task_is : task ≡ groups.task g row.task
  pub period : 0 < task.period
  pub clocks_are : clocks ≡ clocks_of row.task past
  pub clock_is : clock ≡ now past
  pub edges_are : edges ≡ map edges_of cs
  pub timed : AreTimed row.task past cs
