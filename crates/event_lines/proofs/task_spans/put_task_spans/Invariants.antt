use Rattle.std.proofs.Common.{◌≡◌, ◌++◌, map, drop, flat_map}
use Rattle.event_lines.specs.inside.Commas.{with_commas}
use Rattle.event_lines.specs.Shown.{task_span_shown}
use Rattle.event_lines.specs.TrackEvents.{some_group, task_span_events}
use Rattle.event_lines.proofs.task_spans.put_task_spans.Given as goal

-- what was written, and then what is left, is the whole
abbrev pub invariant-loop-span : goal.invariant-loop-span
invariant-loop-span l = l.text ++ with_commas (flat_map (task_span_events (some_group l.set) l.thread.process l.thread.number) (map task_span_shown (drop l.span-index l.spans))) ≡ l.fn.text ++ with_commas (flat_map (task_span_events (some_group l.set) l.thread.process l.thread.number) (map task_span_shown l.spans))
