use Rattle.std.proofs.Common.{◌≡◌, ◌∙◌, ℕ, suc, ◌-◌, ◌<◌, length, map, sym, ap, arith}
use Rattle.std.proofs.lemmas.List.{get_or-map, length-map, map-set}
use Rattle.event_lines.specs.Shown.{task_span_shown}
use Rattle.event_lines.specs.declared.tracks.TaskSpan.{TaskSpan}
use Rattle.span_feed.proofs.LaneLaws.{last-set}
use Rattle.span_feed.proofs.lane.end_last.Goals as goal

pub returns-in-Some : goal.returns-in-Some
returns-in-Some c =
    let xs = c.args.spans.now in
    let i : ℕ = length xs - 1 in
    let s : TaskSpan = c.in-Some.last.now in
    let some : 0 < length xs = c.in-Some.ensures.item.3.0 in
    let low : i < length xs = omega arith in
    let last : suc i ≡ length (map task_span_shown xs) = omega (arith, length-map xs task_span_shown, some) in
    map-set task_span_shown xs i _ ∙ sym (last-set c.args.tick i (map task_span_shown xs) (task_span_shown s) last (ap task_span_shown c.in-Some.ensures.item.1 ∙ sym (get_or-map task_span_shown xs i s (task_span_shown s) low)))
