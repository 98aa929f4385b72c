-- The elements of a set by their numbers, with their colours and short names.
use Rattle.std.specs.Prelude.{ℕ, ◌-◌, ◌%◌, List, ◌∷◌, codes, decimal, nat_le, if◌then◌else◌, slice_index_or}
use Rattle.rt_task.specs.declared.Parts.{Parts}
use Rattle.rt_task.specs.declared.Resv.{Resv}
use Rattle.rt_task.specs.declared.Sem.{Sem}
use Rattle.rt_task.specs.declared.Task.{Task}
use Rattle.rt_model.specs.Group.{no_resv, no_sem, no_task}

-- numbers are from 1
abbrev pub task_at : Parts → ℕ → Task
task_at p t = slice_index_or p.tasks (t - 1) no_task

abbrev pub sem_at : Parts → ℕ → Sem
sem_at p s = slice_index_or p.sems (s - 1) no_sem

abbrev pub resv_at : Parts → ℕ → Resv
resv_at p r = slice_index_or p.resvs (r - 1) no_resv

-- sixteen colours; on the last eight words are white
abbrev pub colour_number : ℕ → ℕ
colour_number t = (t - 1) % 16

abbrev pub colour : ℕ → List ℕ
colour t = 99 ∷ decimal (colour_number t)

abbrev pub ink : ℕ → List ℕ
ink t = if nat_le 8 (colour_number t) then codes "m i" else codes "m"

abbrev pub short_name : ℕ → List ℕ
short_name s = 115 ∷ decimal s
