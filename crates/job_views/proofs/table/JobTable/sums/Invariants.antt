use Rattle.std.proofs.Common.{◌≡◌, ◌+◌, ◌≤◌, map}
use Rattle.rt_rules.specs.Numbers.{numbers_from}
use Rattle.rt_model.specs.Group.{Group}
use Rattle.rt_model.specs.Jobs.{done}
use Rattle.rt_model.specs.Past.{Past}
use Rattle.trace_views.specs.JobRows.{job_row}
use Rattle.job_facts.specs.Sums.{sums_of}
use Rattle.job_views.specs.inside.SumsShown.{FitsRows, sums_shown}
use Rattle.job_views.specs.Tables.{IsTableWith}
use Rattle.job_views.proofs.table.JobTable.sums.Given as goal

abbrev pub invariant-loop-i : goal.invariant-loop-i
invariant-loop-i l = FitsRows l.i l.sums × ((g : Group) (past : Past) → IsTableWith g past l.self l.task l.clock.0 l.requests → l.jobs ≤ done l.task.number.0 past + 1 → sums_shown l.sums ≡ sums_of (map (job_row g l.task.number.0 past) (numbers_from 1 l.i)))
