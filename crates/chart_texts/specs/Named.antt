-- Short forms for worked texts: names, and lines.
use Rattle.std.specs.Prelude.{ℕ, List, ◌∷◌, ◌++◌}
use Rattle.rt_task.specs.declared.Resv.{Resv}
use Rattle.rt_task.specs.declared.Sem.{Sem}
use Rattle.rt_task.specs.declared.Task.{Task}
use Rattle.chart_texts.specs.declared.window.Window.{Window}

abbrev pub named : List ℕ → Task → Task
named name t = record t { name = name }

abbrev pub named_sem : List ℕ → Sem → Sem
named_sem name s = record s { name = name }

abbrev pub named_resv : List ℕ → Resv → Resv
named_resv name r = record r { name = name }

abbrev pub window : ℕ → ℕ → Window
window from to = record { from = from; to = to }

-- a line of a text
abbrev pub then : List ℕ → List ℕ → List ℕ
then line text = line ++ (10 ∷ text)
