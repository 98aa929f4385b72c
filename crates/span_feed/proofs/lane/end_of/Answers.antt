use Rattle.std.proofs.Common.{◌≡◌, ◌∙◌, ℕ, suc, ◌-◌, ◌<◌, length, map, sym, ap, arith}
use Rattle.std.proofs.lemmas.List.{get_or-map, length-map}
use Rattle.event_lines.specs.Shown.{task_span_shown}
use Rattle.event_lines.specs.declared.tracks.TaskSpan.{TaskSpan}
use Rattle.span_feed.specs.Lane.{lasting}
use Rattle.span_feed.proofs.LaneLaws.{ends-by, last-found}
use Rattle.span_feed.proofs.lane.end_of.Goals as goal

pub returns-in-Some-clause-ends : goal.returns-in-Some-clause-ends
returns-in-Some-clause-ends c =
    let xs = c.args.spans.now in
    let i : ℕ = length xs - 1 in
    let s : TaskSpan = c.in-Some.last.now in
    let some : 0 < length xs = c.in-Some.ensures.item.3.0 in
    let low : i < length xs = omega arith in
    let last : suc i ≡ length (map task_span_shown xs) = omega (arith, length-map xs task_span_shown, some) in
    let found = ap task_span_shown c.in-Some.ensures.item.1 ∙ sym (get_or-map task_span_shown xs i s (task_span_shown s) low) in
    ends-by (lasting c.stay_of.result) (map task_span_shown xs) (λ x is. last-found i (map task_span_shown xs) (task_span_shown s) x last found (c.stay_of.ensures.cell x is))
