-- The lanes of a task, from the top of its row at y: what it does, what it holds, non-preemptive sections, and raised keys.
use Rattle.std.specs.List.{join_with_byte}
use Rattle.std.specs.Prelude.{ℕ, ◌+◌, ◌*◌, ◌/◌, Bool, true, false, nat_le, List, [], ◌∷◌, ◌++◌, map, length, codes, decimal}
use Rattle.std.specs.Prelude.{if◌then◌else◌}
use Rattle.rt_task.specs.declared.Parts.{Parts}
use Rattle.trace_views.specs.Cells.{Doing, TaskCell}
use Rattle.trace_views.specs.Cells as cells
use Rattle.chart_texts.specs.Charts.{Marked}
use Rattle.svg_texts.specs.Bars.{bar, fit, words_if}
use Rattle.svg_texts.specs.Elements.{sem_at, short_name}
use Rattle.svg_texts.specs.Lanes.{lane}
use Rattle.svg_texts.specs.Parts.{Part, held, job, raised, section}
use Rattle.svg_texts.specs.Shapes.{rect, words}

-- the processors on which a task works or runs
abbrev pub cpus_text : List ℕ → List ℕ
cpus_text qs = join_with_byte 43 (map decimal qs)

abbrev pub draw_if : List ℕ → ℕ → ℕ → ℕ → ℕ → Bool → List ℕ
draw_if c y h x w so = if so then rect c x y w h else []

module _ (p : Parts) where
  -- a box with the semaphore that the task waits for
  abbrev pub box : List ℕ → ℕ → ℕ → ℕ → ℕ → List ℕ
  box c s y x w = rect c x (y + 16) w 22 ++ words_if (codes "m") (x + w / 2) (y + 28) (fit (sem_at p s).name (short_name s) w)

  unfoldable pub draw_doing : ℕ → ℕ → ℕ → ℕ → Doing → List ℕ
  draw_doing t y x w (cells.works qs) = bar true t x (y + 16) w 22 (cpus_text qs)
  draw_doing t y x w (cells.running qs) = bar false t x (y + 16) w 22 (cpus_text qs)
  draw_doing t y x w (cells.waits s) = box (codes "w") s y x w
  draw_doing t y x w (cells.blocked s) = box (codes "B") s y x w
  draw_doing t y x w cells.sleeping = rect (codes "z") x (y + 26) w 3
  draw_doing t y x w cells.ready = rect (codes "y") x (y + 26) w 3
  draw_doing t y x w cells.away = []

  -- the names of the semaphores where they fit, else the short ones
  abbrev pub held_names : List ℕ → List ℕ
  held_names ss = join_with_byte 44 (map (λ s. (sem_at p s).name) ss)

  abbrev pub held_words : ℕ → List ℕ → List ℕ
  held_words w ss = if nat_le (6 * length (held_names ss)) w then held_names ss else join_with_byte 44 (map short_name ss)

  unfoldable pub draw_held : ℕ → ℕ → ℕ → List ℕ → List ℕ
  draw_held y x w [] = []
  draw_held y x w (s ∷ ss) = rect (codes "s") x (y + 32) w 6 ++ words (codes "n") (x + 1) (y + 47) (held_words w (s ∷ ss))

  unfoldable pub draw_task_part : ℕ → ℕ → ℕ → ℕ → Part → List ℕ
  draw_task_part t y x w (job d k) = draw_doing t y x w d
  draw_task_part t y x w (held ss) = draw_held y x w ss
  draw_task_part t y x w (section so) = draw_if (codes "p") (y + 16) 3 x w so
  draw_task_part t y x w (raised so) = draw_if (codes "k") (y + 12) 4 x w so
  draw_task_part t y x w _ = []

  -- a lane of some part of the task's cells
  abbrev pub task_lane : ℕ → ℕ → ℕ → (TaskCell → Part) → List Marked → List ℕ
  task_lane left t y part cs = lane (draw_task_part t y) left (map (λ (c : Marked). part c.cell) cs)

  unfoldable pub task_lanes : ℕ → ℕ → ℕ → List Marked → List ℕ
  task_lanes left t y cs =
      task_lane left t y (λ c. job c.doing c.job) cs
      ++ (task_lane left t y (λ c. held c.held) cs
      ++ (task_lane left t y (λ c. section c.non_preemptive) cs
      ++ task_lane left t y (λ c. raised c.raised) cs))
