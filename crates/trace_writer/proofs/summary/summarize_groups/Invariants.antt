use Rattle.std.proofs.Common.{◌≡◌, ◌*◌, ◌≤◌, drop}
use Rattle.rt_base.specs.declared.TheConstants.{MOST_STEPS}
use Rattle.trace_tools.specs.BusCounters.{counters}
use Rattle.trace_tools.specs.Counters.{counters_after}
use Rattle.trace_text.specs.CountLines.{shown_from}
use Rattle.set_plays.specs.GroupSteps.{told, told_from}
use Rattle.trace_writer.specs.Summaries.{joined, summary_from}
use Rattle.trace_writer.proofs.summary.summarize_groups.Given as goal

-- the groups so far were summed up, and the bus was shown their entries
abbrev pub invariant-loop-i : goal.invariant-loop-i
invariant-loop-i g l = record {
  summed : joined l.summary (summary_from l.setup l.i (told_from l.setup l.i (drop l.i l.groups))) ≡ summary_from l.setup 0 (told l.setup l.groups);
  shown : counters_after (shown_from l.setup l.i (told_from l.setup l.i (drop l.i l.groups))) (counters g.T.TraceTool.tool l.bus)
      ≡ counters_after (shown_from l.setup 0 (told l.setup l.groups)) (counters g.T.TraceTool.tool l.initial.bus);
  entries : l.summary.entries ≤ l.i * MOST_STEPS;
  requests : l.summary.requests ≤ l.i * (2 * MOST_STEPS);
}
