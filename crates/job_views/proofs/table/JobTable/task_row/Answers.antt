use Rattle.std.proofs.Common.{◌≡◌, ◌∙◌, ◌-◌, length, map, ap, arith}
use Rattle.rt_rules.specs.Numbers.{numbers_from}
use Rattle.block_counts.specs.SeenWords.{tallies_of}
use Rattle.trace_views.specs.JobRows.{job_row}
use Rattle.job_facts.specs.Sums.{due_in, released_in, sums_of, task_row_from}
use Rattle.job_facts.proofs.Few.{listed-few}
use Rattle.job_views.specs.inside.SumsShown.{sums_shown}
use Rattle.job_views.proofs.Lines.{ended-low, task-period, task_row-is}
use Rattle.job_views.proofs.table.JobTable.task_row.Goals as goal

pub overflow_cast-ended : goal.overflow_cast-ended
overflow_cast-ended c =
    let low = ended-low c.requires.table.0 c.requires.table.1 c.args.self.now c.args.task.now c.args.clock.0 c.requires.table.2.table c.index-jobs.result.now c.index-jobs.ensures in
    omega (arith, low, c.len-ended.ensures, c.index-jobs.result.now.ended.ok.0)

pub sums-sums-requires : goal.sums-sums-requires
sums-sums-requires c =
    let g = c.requires.table.0 in
    let past = c.requires.table.1 in
    let is = c.requires.table.2 in
    (g, past, is, omega (arith, c.listed.ensures g past is.table, listed-few g c.args.task.now.number.0 past))

pub released_in-requires-clause-period : goal.released_in-requires-clause-period
released_in-requires-clause-period c = task-period c.requires.table.0 c.requires.table.1 c.args.self.now c.args.task.now c.args.clock.0 c.args.requests.now c.requires.table.2

pub due_in-requires-clause-period : goal.due_in-requires-clause-period
due_in-requires-clause-period c = task-period c.requires.table.0 c.requires.table.1 c.args.self.now c.args.task.now c.args.clock.0 c.args.requests.now c.requires.table.2

pub returns : goal.returns
returns c = λ g past is.
    let task = c.args.task.now in
    let x = c.index-jobs.result.now in
    let clock = c.args.clock.0 in
    let sums = sums_shown c.sums-sums.result in
    let same = c.as_slice-arrivals.ensures.value in
    let few = listed-few g task.number.0 past in
    let listed_is = c.listed.ensures g past is.table in
    let released = c.released_in.ensures ∙ ap (λ cs. released_in task.kind task cs clock) same in
    let ended : c.len-ended.result ≡ length x.ended.items = omega (arith, c.len-ended.ensures, x.ended.ok.0) in
    let due = c.due_in.ensures ∙ ap (λ cs. due_in task cs clock) same in
    let missed = c.saturating_sub.ensures ∙ ap (λ n. n - c.from.result) due ∙ ap (λ n. due_in task x.arrivals.items clock - n) (c.from.ensures ∙ ended) in
    let read : _ ≡ task_row_from task x.arrivals.items (tallies_of c.args.requests.now) clock task.number.0 (length x.ended.items) sums = λ i. record {
      task = task.number.0;
      released = released i;
      ended = ended i;
      late = sums.late;
      missed = missed i;
      units = sums.units;
      response_max = sums.response_max;
      response_sum = sums.response_sum;
      lateness_max = sums.lateness_max;
      preemptions = sums.preemptions;
      migrations = sums.migrations;
      moves = sums.moves;
      requests = sums.requests;
      queued = sums.queued;
      ends_max = c.most_ends.ensures i;
      ends_all_max = c.most_ends_all.ensures i;
    } in
    read ∙ task_row-is g past c.args.self.now task clock c.args.requests.now is x c.index-jobs.ensures sums
    (c.sums-sums.ensures g past is (omega (arith, listed_is, few)) ∙ ap (λ n. sums_of (map (job_row g task.number.0 past) (numbers_from 1 n))) listed_is)
