-- The marks of a task in a column, from its arrivals and the ends of its jobs.
use Rattle.std.specs.Prelude.{ℕ, zero, suc, ◌+◌, ◌-◌, ◌/◌, Bool, ◌&&◌, nat_le, nat_lt, min, List, [], ◌∷◌, ◌++◌, count_by}
use Rattle.std.specs.Prelude.{Option, None, Some, if◌then◌else◌}
use Rattle.rt_task.specs.declared.Kind.{Kind}
use Rattle.rt_task.specs.declared.Kind.TheVariants.{Periodic, Sporadic}
use Rattle.rt_task.specs.declared.Task.{Task}
use Rattle.rt_model.specs.Past.{Past, ends_job, now}
use Rattle.trace_views.specs.Columns.{Column}
use Rattle.trace_views.specs.Marks.{Marks}

-- the clocks at which jobs of a task ended, in order
unfoldable pub end_clocks : ℕ → Past → List ℕ
end_clocks t [] = []
end_clocks t (e ∷ past) = if ends_job t e then (end_clocks t past ++ now past ∷ []) else end_clocks t past

-- of clocks those up to one
abbrev pub up_to : ℕ → List ℕ → ℕ
up_to clock clocks = count_by (λ n. nat_le n clock) clocks

-- ---- how many jobs of a task with these arrivals are released by a clock, and before one; and how many of those that are released by
-- now have their deadline before one

abbrev pub released_in : Kind → Task → List ℕ → ℕ → ℕ
released_in Periodic task arrivals clock = if nat_le task.phase clock then (clock - task.phase) / task.period + 1 else 0
released_in Sporadic task arrivals clock = up_to clock arrivals

abbrev pub released_before_in : Task → List ℕ → ℕ → ℕ
released_before_in task arrivals zero = 0
released_before_in task arrivals (suc clock) = released_in task.kind task arrivals clock

abbrev pub due_in : Task → List ℕ → ℕ → ℕ → ℕ
due_in task arrivals clock before =
    if nat_lt task.rel_deadline before then released_in task.kind task arrivals (min (before - (task.rel_deadline + 1)) clock) else 0

-- ---- the clocks of a column

pub record Edges : Type 0 where
  pub first : ℕ
  pub high : ℕ
  pub next : ℕ

abbrev pub edges_of : Column → Edges
edges_of c = record { first = c.first; high = c.high; next = c.next }

-- those of columns from clocks that are their last, where the first begins at one, and behind the last this column follows, if any
abbrev pub next_by : ℕ → Option ℕ → ℕ
next_by high None = suc high
next_by high (Some clock) = clock

abbrev pub next_in : ℕ → List ℕ → Option ℕ → ℕ
next_in high [] after = next_by high after
next_in high (c ∷ cs) after = c

abbrev pub edges_in : ℕ → List ℕ → Option ℕ → List Edges
edges_in first [] after = []
edges_in first (c ∷ cs) after = record { first = first; high = c; next = next_in c cs after } ∷ edges_in (suc c) cs after

-- ---- the marks, at a clock

abbrev pub marks_in : Task → List ℕ → List ℕ → ℕ → Edges → Bool → Marks
marks_in task arrivals ends clock e end =
    let before : ℕ = due_in task arrivals clock e.high in
    let due : ℕ = due_in task arrivals clock e.next in
    record {
      release = nat_lt (released_before_in task arrivals e.first) (released_in task.kind task arrivals e.high);
      deadline = nat_lt before due;
      missed = nat_lt before due && (nat_lt (up_to e.high ends) due && nat_le e.next clock);
      end = end;
    }
