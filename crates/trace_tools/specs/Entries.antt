-- What the five tools count of the entries that are shown, which stand in the order in which they are shown.
use Rattle.std.specs.Prelude.{ℕ, suc, ◌+◌, ◌-◌, ◌^◌, Bool, true, false, not, ◌&&◌, ◌==◌, nat_lt, nat_le, List, [], ◌∷◌, map, min, max}
use Rattle.std.specs.Prelude.{Option, None, Some, is_some, if◌then◌else◌, count_by}
use Rattle.rt_base.specs.declared.TheConstants.{MOST_CPUS, MOST_TASKS}
use Rattle.rt_base.specs.declared.TaskNo.{TaskNo}
use Rattle.rt_task.specs.declared.Act.{Act}
use Rattle.rt_task.specs.declared.Act.TheVariants.{Do}
use Rattle.rt_task.specs.declared.Op.TheVariants.{Work}
use Rattle.rt_rules.specs.declared.history.Reply.{Reply}
use Rattle.rt_rules.specs.declared.history.Reply.TheVariants.{Done, Runs, Idles}
use Rattle.rt_rules.specs.Numbers.{numbers_from, is}
use Rattle.trace_tools.specs.declared.shown.Shown.{Shown}

-- a count goes no further than 64 bits
abbrev pub most : ℕ
most = 2 ^ 64 - 1

abbrev pub counted_by : (Shown → Bool) → List Shown → ℕ
counted_by p es = min (count_by p es) most

-- the entry ended a job after its deadline
abbrev pub ends_late : Shown → Bool
ends_late e = is_some e.ended && e.late

-- the processor runs something else from now on, or nothing
abbrev pub is_switch_reply : Reply → Bool
is_switch_reply (Runs t) = true
is_switch_reply Idles = true
is_switch_reply _ = false

abbrev pub is_switch : Shown → Bool
is_switch e = is_switch_reply e.entry.reply

-- the task that the processor runs from now on, if it is one that a set can have
abbrev pub begun_by : Reply → Option ℕ
begun_by (Runs t) = if nat_le t.0 MOST_TASKS then Some t.0 else None
begun_by _ = None

abbrev pub begins : Shown → Option ℕ
begins e = begun_by e.entry.reply

-- the accepted Works of a processor
abbrev pub is_work : Act → Reply → Bool
is_work (Do Work) Done = true
is_work _ _ = false

abbrev pub works_on : ℕ → Shown → Bool
works_on q e = e.entry.step.cpu.0 == q && is_work e.entry.step.act e.entry.reply

-- the processor that a task began to run on last, of entries that stand newest first
abbrev pub last_cpu : ℕ → List Shown → Option ℕ
last_cpu t [] = None
last_cpu t (e ∷ es) = if is t (begins e) then Some e.entry.step.cpu.0 else last_cpu t es

-- after the earlier entries, newest first, a task begins to run on another processor than it did last
abbrev pub moves_from : Option ℕ → ℕ → Bool
moves_from None q = false
moves_from (Some p) q = not (p == q)

abbrev pub moves_task : Option ℕ → ℕ → List Shown → Bool
moves_task None q before = false
moves_task (Some t) q before = moves_from (last_cpu t before) q

abbrev pub moves : List Shown → Shown → Bool
moves before e = moves_task (begins e) e.entry.step.cpu.0 before

-- how often a task moved
abbrev pub moves_after : List Shown → List Shown → ℕ
moves_after before [] = 0
moves_after before (e ∷ es) = (if moves before e then 1 else 0) + moves_after (e ∷ before) es

-- one more than the greatest processor that was shown, of those that a set can have; 0 where none was
abbrev pub reach : ℕ → ℕ
reach q = if nat_lt q MOST_CPUS then suc q else 0

abbrev pub processors_shown : List Shown → ℕ
processors_shown [] = 0
processors_shown (e ∷ es) = max (reach e.entry.step.cpu.0) (processors_shown es)

-- the number and the task of the first entry that ended a job late
abbrev pub miss_of : Option TaskNo → Shown → List ℕ
miss_of None e = []
miss_of (Some t) e = if e.late then (e.no ∷ t.0 ∷ []) else []

abbrev pub or_else : List ℕ → List ℕ → List ℕ
or_else [] ys = ys
or_else (x ∷ xs) ys = x ∷ xs

-- the totals of each tool
abbrev pub misses : List Shown → List ℕ
misses es = counted_by ends_late es ∷ []

abbrev pub switches : List Shown → List ℕ
switches es = counted_by is_switch es ∷ []

abbrev pub migrations : List Shown → List ℕ
migrations es = min (moves_after [] es) most ∷ []

abbrev pub occupancy : List Shown → List ℕ
occupancy es = map (λ q. counted_by (works_on q) es) (numbers_from 0 (processors_shown es))

abbrev pub first_miss : List Shown → List ℕ
first_miss [] = []
first_miss (e ∷ es) = or_else (miss_of e.ended e) (first_miss es)
