use Rattle.std.proofs.Common.{◌≡◌}
use Rattle.rt_model.specs.Past.{Past, now}
use Rattle.rank_afresh.specs.Standing.{IsAt, group_of}
use Rattle.chart_rows.specs.ReadyJobs.{KnowsMore}
use Rattle.chart_rows.specs.Rows.{task_seen}
use Rattle.chart_rows.proofs.Changed.{changed}
use Rattle.span_feed.specs.Still.{AreKnown}
use Rattle.span_feed.proofs.seeing.see_tasks.Given as goal

-- those so far have seen the state, and what is known is so and more than before
abbrev pub invariant-loop-i : goal.invariant-loop-i
invariant-loop-i l =
    let g = group_of l.afresh in
    ((past : Past) → IsAt l.afresh past → l.clock.0 ≡ now past → AreKnown g past l.fn.ready l.fn.away → (l.tasks ≡ changed (task_seen g past) l.i l.fn.tasks) × AreKnown g past l.ready l.away)
    × KnowsMore l.fn.ready l.ready
