-- The text of a chart: a title, the groups, the semaphores, and a key to the characters.
use Rattle.std.specs.Prelude.{ℕ, suc, Bool, nat_lt, List, [], ◌∷◌, ◌++◌, length, map, flat_map, fold, max, codes, decimal}
use Rattle.rt_task.specs.declared.Parts.{Parts}
use Rattle.rt_task.specs.declared.Resv.{Resv}
use Rattle.rt_task.specs.declared.Sem.{Sem}
use Rattle.rt_task.specs.declared.Task.{Task}
use Rattle.rt_rules.specs.declared.history.Entry.{Entry}
use Rattle.rt_model.specs.Group.{Group, resv, task}
use Rattle.set_canonical.specs.Words.{plugin_word, protocol_word}
use Rattle.chart_texts.specs.declared.window.Axis.{Axis}
use Rattle.chart_texts.specs.declared.window.Axis.TheVariants.{Ticks, Entries}
use Rattle.chart_texts.specs.declared.window.Window.{Window}
use Rattle.chart_texts.specs.Charts.{Chart, Panel, ResvRow, TaskRow, chart_of, longest_on, pasts_from}
use Rattle.chart_texts.specs.CpuLines.{cpu_lines, resv_line}
use Rattle.chart_texts.specs.Letters.{sem_letter}
use Rattle.chart_texts.specs.Rulers.{rulers}
use Rattle.chart_texts.specs.TaskLines.{task_label, task_lines}
use Rattle.chart_texts.specs.Windows.{whole}

abbrev pub axis_word : Axis → List ℕ
axis_word Ticks = codes "ticks"
axis_word Entries = codes "entries"

module _ (p : Parts) where
  -- the scheduler, and which part of how much is shown
  unfoldable pub title : Axis → Window → ℕ → List ℕ
  title axis w longest =
      plugin_word p.plugin
      ++ (codes ", " ++ (axis_word axis ++ (32 ∷ decimal w.from ++ (codes " to " ++ (decimal w.to ++ (codes " of " ++ decimal longest))))))

-- the length of the longest label, or 12
abbrev pub width_of : List Task → List Resv → ℕ
width_of tasks resvs =
    fold max 12 (map (λ (t : Task). length (task_label t.name t.number.0)) tasks ++ map (λ (r : Resv). length r.name) resvs)

-- an empty line and the number of a group
abbrev pub heading : ℕ → List ℕ
heading n = 10 ∷ codes "group " ++ (decimal n ++ (10 ∷ []))

-- a task declares a semaphore
abbrev pub declares_any : Task → Bool
declares_any t = nat_lt 0 (length t.uses)

abbrev pub task_text : Task → ℕ → TaskRow → List ℕ
task_text t width r = task_lines t.name (declares_any t) width r

module _ (p : Parts) where
  unfoldable pub label_width : ℕ
  label_width = width_of p.tasks p.resvs

  -- the number, the rulers and the rows of a group
  unfoldable pub panel_text : Axis → ℕ → Panel → List ℕ
  panel_text axis width c =
      let g : Group = record { setup = p; number = c.group } in
      heading c.group
      ++ (rulers axis width c
      ++ (flat_map (λ (r : TaskRow). task_text (task g r.task) width r) c.tasks
      ++ (flat_map (cpu_lines width) c.cpus
      ++ flat_map (λ (r : ResvRow). resv_line (resv g r.resv).name width r) c.resvs)))

-- where there are semaphores, an empty line and a line for each, numbered from s on
abbrev pub sem_line : ℕ → Sem → List ℕ
sem_line s sem = sem_letter s ∷ codes " semaphore " ++ (sem.name ++ (32 ∷ protocol_word sem.protocol ++ (10 ∷ [])))

abbrev pub sem_lines_from : ℕ → List Sem → List ℕ
sem_lines_from s [] = []
sem_lines_from s (sem ∷ sems) = sem_line s sem ++ sem_lines_from (suc s) sems

unfoldable pub sems_text : List Sem → List ℕ
sems_text [] = []
sems_text (s ∷ ss) = 10 ∷ sem_lines_from 1 (s ∷ ss)

unfoldable pub key_text : List ℕ
key_text =
    codes "above a task  ^ release, v deadline, ! deadline missed\n"
    ++ (codes "task          0 unit of work on processor 0, = runs and does none, . there, not running,\n"
    ++ (codes "              w waits for a semaphore, W waits and is priority-blocked, z sleeps, | end of the job\n"
    ++ (codes "holds         the letter of the semaphore, + more than one\n"
    ++ codes "processor     A works for task A, A= runs it and does no unit\n")))

-- the semaphores, an empty line and the key
abbrev pub foot : List Sem → List ℕ
foot sems = sems_text sems ++ (10 ∷ key_text)

-- the text of what a chart shows
unfoldable pub text_of : Parts → Axis → Window → Chart → List ℕ
text_of p axis w chart =
    title p axis w chart.length
    ++ (10 ∷ flat_map (panel_text p axis (label_width p)) chart.panels ++ foot p.sems)

-- the text of a set and its histories, in a window, and in the one that is taken where none is asked for
unfoldable pub chart_text : Axis → Window → Parts → List (List Entry) → List ℕ
chart_text axis w p hs = text_of p axis w (chart_of axis w (pasts_from p 0 hs))

unfoldable pub whole_text : Axis → Parts → List (List Entry) → List ℕ
whole_text axis p hs = chart_text axis (whole (longest_on axis (pasts_from p 0 hs))) p hs
