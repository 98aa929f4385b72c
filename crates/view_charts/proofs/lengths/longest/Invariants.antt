use Rattle.std.proofs.Common.{◌≡◌}
use Rattle.std.specs.Prelude.{fold, max}
use Rattle.rt_task.specs.declared.Parts.{Parts}
use Rattle.chart_texts.specs.Charts.{longest_on, pasts_from}
use Rattle.trace_text.specs.Groups.{AreGroupsOf, histories}
use Rattle.view_charts.proofs.GroupPasts.{pasts_behind}
use Rattle.view_charts.proofs.Longest.{lengths_on}
use Rattle.view_charts.proofs.lengths.longest.Given as goal

-- the greatest of the length so far and those that are left
abbrev pub invariant-loop-group : goal.invariant-loop-group
invariant-loop-group l = (p : Parts) → AreGroupsOf p l.groups
    → fold max l.longest (lengths_on l.axis (pasts_behind p l.groups l.group-index)) ≡ longest_on l.axis (pasts_from p 0 (histories l.groups))
