-- The tests of equal cells decide.
use Rattle.std.proofs.Common.{◌≡◌, ℕ, true, Option, None, Some, refl, ap}
use Rattle.rt_rules.proofs.BoolLaws.{both}
use Rattle.rt_rules.proofs.MemberLaws.{equal_self}
use Rattle.trace_views.specs.Cells.{CpuCell, Playing, TaskCell}
use Rattle.trace_views.specs.Cells as cells
use Rattle.event_texts.specs.Budgets.{same_count}
use Rattle.event_texts.specs.CpuSpans.{same_link, same_playing}
use Rattle.event_texts.specs.CpuSpans as cpu_texts
use Rattle.event_texts.specs.TaskSpans.{same_cell}
use Rattle.chart_cells.proofs.Sameness.{cell-knows, cell-tells, equal}
use Rattle.span_feed.specs.Extended.{Decides}

pub counts : Decides ℕ same_count
counts = record { tells = equal; knows = equal_self }

pub task_cells : Decides TaskCell same_cell
task_cells = record { tells = cell-tells; knows = cell-knows }

-- ---- of a processor

playing-tells : (x y : Playing) → same_playing x y ≡ true → x ≡ y
playing-tells (cells.works_for t) (cells.works_for u) h = ap cells.works_for (equal t u h)
playing-tells (cells.runs_task t) (cells.runs_task u) h = ap cells.runs_task (equal t u h)
playing-tells cells.idle cells.idle h = refl
playing-tells x y h = cc

playing-knows : (x : Playing) → same_playing x x ≡ true
playing-knows (cells.works_for t) = equal_self t
playing-knows (cells.runs_task t) = equal_self t
playing-knows cells.idle = refl

link-tells : (x y : Option ℕ) → same_link x y ≡ true → x ≡ y
link-tells None None h = refl
link-tells (Some t) (Some u) h = ap Some (equal t u h)
link-tells None (Some u) h = cc
link-tells (Some t) None h = cc

link-knows : (x : Option ℕ) → same_link x x ≡ true
link-knows None = refl
link-knows (Some t) = equal_self t

cpu-tells : (x y : CpuCell) → cpu_texts.same_cell x y ≡ true → x ≡ y
cpu-tells x y h =
    let a = both (same_playing x.playing y.playing) _ h in
    λ i. record { playing = playing-tells x.playing y.playing a.0 i; link = link-tells x.link y.link a.1 i }

pub cpu_cells : Decides CpuCell cpu_texts.same_cell
cpu_cells = record { tells = cpu-tells; knows = λ x. rw (playing-knows x.playing, link-knows x.link) refl }
