-- Numbers of tasks as plain numbers, as definitions speak of them.
use Rattle.std.specs.Prelude.{ℕ, List, map, Option, option_map}
use Rattle.rt_base.specs.declared.TaskNo.{TaskNo}

-- the number of a task, where there is one
abbrev pub number_of_task : Option TaskNo → Option ℕ
number_of_task o = option_map (λ (t : TaskNo). t.0) o

abbrev pub numbers : List TaskNo → List ℕ
numbers ts = map (λ (t : TaskNo). t.0) ts

abbrev pub numbers_of_tasks : List (Option TaskNo) → List (Option ℕ)
numbers_of_tasks os = map number_of_task os
