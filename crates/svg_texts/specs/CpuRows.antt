-- The rows of processors and reservations, 36 pixels high.
use Rattle.std.specs.Prelude.{ℕ, suc, ◌+◌, ◌-◌, ◌*◌, ◌/◌, Bool, true, false, ◌==◌, max}
use Rattle.std.specs.Prelude.{List, [], ◌∷◌, ◌++◌, map, codes, decimal, Option, None, Some}
use Rattle.std.specs.Prelude.{if◌then◌else◌}
use Rattle.rt_task.specs.declared.Parts.{Parts}
use Rattle.trace_views.specs.Cells.{CpuCell, Playing}
use Rattle.trace_views.specs.Cells as cells
use Rattle.chart_texts.specs.Charts.{CpuRow, ResvRow}
use Rattle.svg_texts.specs.Bars.{bar, fit}
use Rattle.svg_texts.specs.Elements.{colour, resv_at, task_at}
use Rattle.svg_texts.specs.Lanes.{lane}
use Rattle.svg_texts.specs.Parts.{Part, left, link, playing}
use Rattle.svg_texts.specs.Shapes.{line, rect, words}

module _ (p : Parts) where
  abbrev pub cpu_bar : Bool → ℕ → ℕ → ℕ → ℕ → List ℕ
  cpu_bar full t y x w = bar full t x (y + 4) w 18 (fit (task_at p t).name (decimal t) w)

  unfoldable pub draw_playing : ℕ → ℕ → ℕ → Playing → List ℕ
  draw_playing y x w (cells.works_for t) = cpu_bar true t y x w
  draw_playing y x w (cells.runs_task t) = cpu_bar false t y x w
  draw_playing y x w cells.idle = []

unfoldable pub draw_link : ℕ → ℕ → ℕ → Option ℕ → List ℕ
draw_link y x w None = []
draw_link y x w (Some t) = rect (colour t) x (y + 24) w 4

unfoldable pub draw_cpu_part : Parts → ℕ → ℕ → ℕ → Part → List ℕ
draw_cpu_part p y x w (playing a) = draw_playing p y x w a
draw_cpu_part p y x w (link o) = draw_link y x w o
draw_cpu_part p y x w _ = []

-- what is left of a budget, as a part of 20 pixels, but at least one
abbrev pub budget_height : ℕ → ℕ → ℕ
budget_height budget units = max 1 (units * 20 / budget)

unfoldable pub draw_left : ℕ → ℕ → ℕ → ℕ → ℕ → List ℕ
draw_left budget y x w units =
    let h = budget_height budget units in
    if units == 0 then [] else (rect (codes "c0") x (y + 26 - h) w h ++ words (codes "m") (x + w / 2) (y + 24) (decimal units))

unfoldable pub draw_resv_part : ℕ → ℕ → ℕ → ℕ → Part → List ℕ
draw_resv_part budget y x w (left units) = draw_left budget y x w units
draw_resv_part budget y x w _ = []

abbrev pub cpu_words : ℕ → List ℕ
cpu_words q = codes "processor " ++ decimal q

module _ (p : Parts) (edge : ℕ) (n : ℕ) where
  abbrev pub cpu_lane : ℕ → (CpuCell → Part) → List CpuCell → List ℕ
  cpu_lane y part cs = lane (draw_cpu_part p y) edge (map part cs)

  unfoldable pub cpu_row : ℕ → CpuRow → List ℕ
  cpu_row y r =
      words (codes "e") (edge - 8) (y + 17) (cpu_words r.cpu)
      ++ (cpu_lane y (λ c. playing c.playing) r.cells
      ++ (cpu_lane y (λ c. link c.link) r.cells
      ++ line (codes "b") edge (y + 22) (20 * n) 0))

  -- the rows from number i on
  unfoldable pub cpu_rows : ℕ → ℕ → List CpuRow → List ℕ
  cpu_rows y i [] = []
  cpu_rows y i (r ∷ rs) = cpu_row (y + 36 * i) r ++ cpu_rows y (suc i) rs

  unfoldable pub resv_row : ℕ → ResvRow → List ℕ
  resv_row y r =
      words (codes "e") (edge - 8) (y + 22) (resv_at p r.resv).name
      ++ (lane (draw_resv_part (resv_at p r.resv).budget y) edge (map left r.left)
      ++ line (codes "b") edge (y + 26) (20 * n) 0)

  unfoldable pub resv_rows : ℕ → ℕ → List ResvRow → List ℕ
  resv_rows y i [] = []
  resv_rows y i (r ∷ rs) = resv_row (y + 36 * i) r ++ resv_rows y (suc i) rs
