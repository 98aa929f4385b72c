-- The lines of a trace as values.
use Rattle.std.specs.Prelude.{ℕ, List, Option, map}
use Rattle.rt_base.specs.TaskNos.{number_of_task}
use Rattle.rt_rules.specs.declared.history.Entry.{Entry}
use Rattle.trace_lines.specs.declared.links.CpuLink.{CpuLink}

-- a processor and the task that it is linked to
abbrev pub Link : Type 0
Link = ℕ × Option ℕ

abbrev pub link_of : CpuLink → Link
link_of x = (x.cpu.0, number_of_task x.task)

abbrev pub links_of : List CpuLink → List Link
links_of xs = map link_of xs

pub data Line : Type 0 where
  -- a group and the links of its processors at opening
  group_line : ℕ → List Link → Line
  -- an entry's number in its group, the entry, and the links that it changed
  entry_line : ℕ → Entry → List Link → Line
  -- a request by its entry's number, its task and semaphore, the critical sections that ended while its task was blocked,
  -- all that ended while it waited, and the bound on the former
  block_line : ℕ → ℕ → ℕ → ℕ → ℕ → Option ℕ → Line
  -- the end of the groups
  end_line : Line
  -- what a tool counted: its letter and its totals
  count_line : ℕ → List ℕ → Line
