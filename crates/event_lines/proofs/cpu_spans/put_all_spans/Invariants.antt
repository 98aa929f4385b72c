use Rattle.std.proofs.Common.{◌≡◌, ◌++◌, map, drop, flat_map}
use Rattle.event_lines.specs.inside.Commas.{with_commas}
use Rattle.event_lines.specs.Shown.{cpu_span_shown}
use Rattle.event_lines.specs.TrackEvents.{cpu_span_events, some_group}
use Rattle.event_lines.proofs.cpu_spans.put_all_spans.Given as goal

-- what was written, and then what is left, is the whole
abbrev pub invariant-loop-span : goal.invariant-loop-span
invariant-loop-span l = l.text ++ with_commas (flat_map (cpu_span_events (some_group l.set) l.thread.process l.cpu.0) (map cpu_span_shown (drop l.span-index l.spans))) ≡ l.fn.text ++ with_commas (flat_map (cpu_span_events (some_group l.set) l.thread.process l.cpu.0) (map cpu_span_shown l.spans))
