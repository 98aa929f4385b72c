-- The text that explains a refusal: the rule that is broken, and where it is broken. A refusal counts elements from 0, a trace from 1.
use Rattle.std.specs.Prelude.{ℕ, ◌+◌, List, [], ◌++◌, codes, decimal}
use Rattle.rt_task.specs.declared.bad_set.BadSet.{BadSet}
use Rattle.rt_task.specs.declared.bad_set.Part.{Part}
use Rattle.rt_task.specs.declared.bad_set.Part.TheVariants as parts
use Rattle.set_explain.specs.Causes.{Cause, broken, not_json, unnamed}
use Rattle.set_explain.specs.Rules.{Rule}

unfoldable pub json_line : ℕ → ℕ → List ℕ
json_line line column =
    codes "line " ++ decimal line ++ codes ", column " ++ decimal column ++ codes ": no JSON value goes on so\n"

unfoldable pub rule_line : Rule → List ℕ
rule_line r = r.member ++ codes ": " ++ r.says ++ codes "\n"

abbrev pub cause_line : Cause → List ℕ
cause_line (broken r) = rule_line r
cause_line (not_json line column) = json_line line column
cause_line unnamed = codes "no rule is named\n"

-- an element of an array of the set; of a semaphore and a task also its number in a trace
unfoldable pub element : List ℕ → ℕ → List ℕ
element array i = codes "where: " ++ array ++ codes "[" ++ decimal i ++ codes "]\n"

-- its place, from 0, and its number, from 1
unfoldable pub counted : List ℕ → ℕ → List ℕ → List ℕ
counted before i between = before ++ decimal i ++ between ++ decimal (i + 1)

abbrev pub sem_place : ℕ → List ℕ
sem_place i = counted (codes "where: sems[") i (codes "], semaphore ") ++ codes " of a trace\n"

unfoldable pub where_numbered : List ℕ
where_numbered = codes " where a trace numbers tasks\n"

abbrev pub task_place : ℕ → List ℕ
task_place i = counted (codes "where: tasks[") i (codes "], task ") ++ where_numbered

unfoldable pub of_trace : List ℕ
of_trace = codes " of the trace; the first is 1\n"

unfoldable pub line_place : ℕ → List ℕ
line_place n = codes "where: line " ++ decimal n ++ of_trace

abbrev pub place_line : Part → ℕ → List ℕ
place_line parts.Whole i = codes "where: the set as a whole\n"
place_line parts.Cluster i = element (codes "clusters") i
place_line parts.Sem i = sem_place i
place_line parts.Resv i = element (codes "resvs") i
place_line parts.Task i = task_place i
place_line parts.Step i = element (codes "steps") i
place_line parts.Line n = line_place n

abbrev pub explanation : BadSet → Cause → List ℕ
explanation b c = cause_line c ++ place_line b.place.part b.place.index
