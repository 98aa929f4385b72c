use Rattle.std.proofs.Common.{◌≡◌, ◌++◌, map, drop}
use Rattle.event_lines.specs.inside.Commas.{with_commas}
use Rattle.event_lines.specs.Shown.{budget_span_shown}
use Rattle.event_lines.specs.TrackEvents.{budget_event, some_group}
use Rattle.event_lines.proofs.budgets.put_budget_spans.Given as goal

-- what was written, and then what is left, is the whole
abbrev pub invariant-loop-span : goal.invariant-loop-span
invariant-loop-span l = l.text ++ with_commas (map (budget_event (some_group l.set) l.process l.resv.0) (map budget_span_shown (drop l.span-index l.spans))) ≡ l.fn.text ++ with_commas (map (budget_event (some_group l.set) l.process l.resv.0) (map budget_span_shown l.spans))
