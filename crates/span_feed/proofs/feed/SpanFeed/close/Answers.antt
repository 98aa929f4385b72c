use Rattle.std.proofs.Common.{◌∙◌, ap, sym}
use Rattle.rank_afresh.specs.Standing.{group_of}
use Rattle.rt_model.specs.Past.{now}
use Rattle.span_feed.specs.Feeds.{tracks_to}
use Rattle.span_feed.specs.TickStrips.{tick_strip, ticks_below}
use Rattle.span_feed.proofs.Feeding.{all-over, next-long}
use Rattle.chart_rows.proofs.TickLaws.{newest-strip}
use Rattle.span_feed.proofs.TickLaws.{length-below}
use Rattle.span_feed.proofs.feed.SpanFeed.close.Goals as goal

pub end_tick-requires-clause-held : goal.end_tick-requires-clause-held
end_tick-requires-clause-held c =
    let past = c.requires.fed.0 in
    (past, ticks_below past (now past), tick_strip past (now past), c.requires.fed.2, newest-strip past, c.requires.fed.1 ∙ sym (length-below past (now past)), c.requires.fed.3.0)

pub returns : goal.returns
returns c = λ past now_is at fed.
    let ended = c.in_ok-end_tick.ensures.ended past (ticks_below past (now past)) (tick_strip past (now past)) at (newest-strip past) (now_is ∙ sym (length-below past (now past))) fed.0 in
    c.in_ok-tracks.ensures ∙ ap (λ n. tracks_to n c.end_tick.new.self.lanes) (next-long past c.args.now.0 now_is) ∙ ended.column.spans.tracks_are ∙ all-over (group_of c.args.afresh.now) past
