-- The text of a picture: its head, the groups one below the other, the semaphores, and the legend.
use Rattle.std.specs.Prelude.{ℕ, suc, ◌+◌, ◌-◌, ◌*◌, ◌/◌, ◌%◌, max, List, [], ◌∷◌, ◌++◌, length, map, fold, codes, decimal}
use Rattle.rt_task.specs.declared.Parts.{Parts}
use Rattle.rt_task.specs.declared.Resv.{Resv}
use Rattle.rt_task.specs.declared.Sem.{Sem}
use Rattle.rt_task.specs.declared.Task.{Task}
use Rattle.rt_rules.specs.declared.history.Entry.{Entry}
use Rattle.set_canonical.specs.Words.{protocol_word}
use Rattle.chart_texts.specs.declared.window.Axis.{Axis}
use Rattle.chart_texts.specs.declared.window.Axis.TheVariants.{Ticks, Entries}
use Rattle.chart_texts.specs.declared.window.Window.{Window}
use Rattle.chart_texts.specs.Charts.{Chart, Panel, chart_of, longest_on, pasts_from}
use Rattle.chart_texts.specs.ChartText.{title}
use Rattle.chart_texts.specs.Windows.{whole}
use Rattle.svg_texts.specs.CpuRows.{cpu_rows, resv_rows}
use Rattle.svg_texts.specs.Elements.{short_name}
use Rattle.svg_texts.specs.Grids.{grid, step_of}
use Rattle.svg_texts.specs.Legend.{legend}
use Rattle.svg_texts.specs.Shapes.{number, rect, words}
use Rattle.svg_texts.specs.Style.{style}
use Rattle.svg_texts.specs.TaskRows.{task_rows}

abbrev pub task_label_length : Task → ℕ
task_label_length t = length (decimal t.number.0) + 1 + length t.name

-- the length of the longest label, or 12
abbrev pub label_length : List Task → List Resv → ℕ
label_length tasks resvs = fold max 12 (map task_label_length tasks ++ map (λ (r : Resv). length r.name) resvs)

-- where the columns begin
unfoldable pub left_edge : Parts → ℕ
left_edge p = 7 * label_length p.tasks p.resvs + 24

abbrev pub wide : ℕ → ℕ → ℕ
wide edge n = max (edge + 20 * n + 30) 1010

-- the heights of a group's rows, of the group with its head, and of the semaphores
abbrev pub rows_height : Panel → ℕ
rows_height c = 52 * length c.tasks + 36 * (length c.cpus + length c.resvs) + 8

abbrev pub panel_height : Panel → ℕ
panel_height c = rows_height c + 72

unfoldable pub below : ℕ → List Panel → ℕ
below y [] = y
below y (c ∷ cs) = below (y + panel_height c) cs

abbrev pub sems_height : ℕ → ℕ
sems_height n = 16 * ((n + 2) / 3)

-- the document begins with its size, the style, and a white ground
unfoldable pub size : ℕ → ℕ → List ℕ
size w h = codes "<svg xmlns=\"http://www.w3.org/2000/svg\"" ++ (number (codes "width") w ++ number (codes "height") h)

unfoldable pub view_box : ℕ → ℕ → List ℕ
view_box w h = codes " viewBox=\"0 0 " ++ (decimal w ++ (32 ∷ decimal h ++ codes "\">\n"))

unfoldable pub head : ℕ → ℕ → List ℕ
head w h = size w h ++ (view_box w h ++ (style ++ rect (codes "o") 0 0 w h))

abbrev pub axis_words : Axis → ℕ → ℕ → List ℕ
axis_words Ticks edge y = words (codes "n e") (edge - 12) (y + 50) (codes "tick")
axis_words Entries edge y =
    words (codes "n e") (edge - 12) (y + 36) (codes "clock") ++ words (codes "n e") (edge - 12) (y + 50) (codes "entry")

unfoldable pub group_words : Axis → ℕ → ℕ → ℕ → List ℕ
group_words axis edge y g = words (codes "h") 20 (y + 16) (codes "group " ++ decimal g) ++ axis_words axis edge y

-- the rows of a group whose head begins at y: of tasks, processors and reservations
unfoldable pub rows_text : Parts → ℕ → ℕ → ℕ → Panel → List ℕ
rows_text p edge n y c =
    let tasks = y + 56 in
    let cpus = tasks + 52 * length c.tasks + 8 in
    let resvs = cpus + 36 * length c.cpus in
    task_rows p edge n tasks 0 c.tasks ++ (cpu_rows p edge n cpus 0 c.cpus ++ resv_rows p edge n resvs 0 c.resvs)

module _ (p : Parts) (axis : Axis) (w : Window) (step : ℕ) (edge : ℕ) where
  -- a group: its words, the grid, and the rows
  unfoldable pub panel_text : ℕ → Panel → List ℕ
  panel_text y c =
      group_words axis edge y c.group
      ++ (grid axis step edge y c (rows_height c) w.from (w.to - w.from)
      ++ rows_text p edge (w.to - w.from) y c)

  unfoldable pub panel_texts : ℕ → List Panel → List ℕ
  panel_texts y [] = []
  panel_texts y (c ∷ cs) = panel_text y c ++ panel_texts (y + panel_height c) cs

abbrev pub sem_says : ℕ → Sem → List ℕ
sem_says number s = short_name number ++ (codes " is " ++ (s.name ++ (codes ", " ++ protocol_word s.protocol)))

-- semaphore i, counted from 0; three stand in a row
unfoldable pub sem_words : ℕ → ℕ → Sem → List ℕ
sem_words y i s = words (codes "t") (20 + 330 * (i % 3)) (y + 12 + 16 * (i / 3)) (sem_says (i + 1) s)

unfoldable pub sems_from : ℕ → ℕ → List Sem → List ℕ
sems_from y i [] = []
sems_from y i (s ∷ ss) = sem_words y i s ++ sems_from y (suc i) ss

-- what stands below the groups, from y on
unfoldable pub foot : ℕ → List Sem → List ℕ
foot y sems = sems_from y 0 sems ++ (legend (y + sems_height (length sems)) ++ codes "</svg>\n")

-- the text of what a chart shows; the groups begin at 40, and the legend is 252 high
unfoldable pub svg_of : Parts → Axis → Window → Chart → List ℕ
svg_of p axis w chart =
    let edge = left_edge p in
    let y = below 40 chart.panels in
    head (wide edge (w.to - w.from)) (y + sems_height (length p.sems) + 252)
    ++ (words (codes "h") 20 26 (title p axis w chart.length)
    ++ (panel_texts p axis w (step_of axis w chart.panels) edge 40 chart.panels
    ++ foot y p.sems))

-- the picture of a set and its histories, in a window, and in the one that is taken where none is asked for
unfoldable pub svg_text : Axis → Window → Parts → List (List Entry) → List ℕ
svg_text axis w p hs = svg_of p axis w (chart_of axis w (pasts_from p 0 hs))

unfoldable pub whole_svg : Axis → Parts → List (List Entry) → List ℕ
whole_svg axis p hs = svg_text axis (whole (longest_on axis (pasts_from p 0 hs))) p hs
