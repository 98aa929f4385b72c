use Rattle.std.proofs.Common.{◌≡◌, ◌∙◌, ◌<◌, ◌≤◌, true, false, ◌∷◌, ◌++◌, [], subst, sym, arith}
use Rattle.std.proofs.lemmas.Bool.Decides.{nat_tests}
use Rattle.std.specs.Prelude.{nat_le}
use Rattle.rank_afresh.specs.Standing.{group_of}
use Rattle.rt_model.specs.Past.{now}
use Rattle.chart_rows.specs.AwayTasks.{AreAway}
use Rattle.chart_rows.specs.ReadyJobs.{AreReady}
use Rattle.span_feed.specs.TickStrips.{tick_strip, ticks_below}
use Rattle.span_feed.proofs.Fed.{begins-same, holds-same, turned-no, turned-yes}
use Rattle.span_feed.proofs.Feeding.{next-long, ticks-stay, ticks-turned}
use Rattle.chart_rows.proofs.TickLaws.{newest-strip}
use Rattle.span_feed.proofs.TickLaws.{length-below, turned-not}
use Rattle.span_feed.proofs.feed.SpanFeed.turn.Goals as goal

pub end_tick-requires-clause-held : goal.end_tick-requires-clause-held
end_tick-requires-clause-held c =
    let past = c.requires.fed.0 in
    (past, ticks_below past (now past), tick_strip past (now past), c.requires.fed.2, newest-strip past, c.requires.fed.1 ∙ sym (length-below past (now past)), c.requires.fed.3.0)

pub pass_ticks-requires : goal.pass_ticks-requires
pass_ticks-requires c =
    let past = c.requires.fed.0 in
    let over = ticks_below past (now past) in
    let going = tick_strip past (now past) in
    let ready = subst (AreReady (group_of c.args.afresh.now) past) (sym c.in_ok-end_tick.ensures.known) c.requires.fed.3.1.1.0 in (
      past,
      over ++ going ∷ [],
      c.requires.fed.2,
      ready,
      next-long past c.args.now.0 c.requires.fed.1,
      c.in_ok-end_tick.ensures.ended past over going c.requires.fed.2 (newest-strip past) (c.requires.fed.1 ∙ sym (length-below past (now past))) c.requires.fed.3.0,
    )

pub returns : goal.returns
returns c = λ past now_is at fed.
    let g = group_of c.args.afresh.now in
    let over = ticks_below past (now past) in
    let going = tick_strip past (now past) in
    let later : c.args.now.0 < c.args.tick.0 = omega (arith, c.if-tick-now.false) in
    let after : now past < c.args.tick.0 = omega (arith, later, now_is) in
    let no : nat_le c.args.tick.0 (now past) ≡ false = grind (arith, nat_tests, after) in
    let ended = c.in_ok-end_tick.ensures.ended past over going at (newest-strip past) (now_is ∙ sym (length-below past (now past))) fed.0 in
    let ready = subst (AreReady g past) (sym c.in_ok-end_tick.ensures.known) fed.1.1.0 in
    let passed = c.in_ok-pass_ticks.ensures.passed past (over ++ going ∷ []) at ready (next-long past c.args.now.0 now_is) ended in
    let turned = begins-same g c.pass_ticks.new.self _ _ (ticks-turned past c.args.now.0 c.args.tick.0 now_is later) passed in (
      turned-no g (record c.pass_ticks.new.self { begun = false }) c.args.tick.0 past no (record { column = turned.column; still = turned.still }),
      sym no,
      (
        fed.1.0,
        (
          subst (AreReady g past) (sym (c.in_ok-pass_ticks.ensures.known ∙ c.in_ok-end_tick.ensures.known)) fed.1.1.0,
          subst (AreAway g past) (sym (c.in_ok-pass_ticks.ensures.away ∙ c.in_ok-end_tick.ensures.away)) fed.1.1.1,
        ),
      ),
    )

pub returns-then-tick-now : goal.returns-then-tick-now
returns-then-tick-now c = λ past now_is at fed.
    let g = group_of c.args.afresh.now in
    let low : c.args.tick.0 ≤ c.args.now.0 = omega (arith, c.if-tick-now.true) in
    let before : c.args.tick.0 ≤ now past = omega (arith, low, now_is) in
    let yes : nat_le c.args.tick.0 (now past) ≡ true = grind (arith, nat_tests, before) in
    let stays = holds-same g {f = c.args.self.now} _ _ _ _ (ticks-stay past c.args.now.0 c.args.tick.0 now_is low) (sym (turned-not c.args.tick.0 past before)) fed.0 in (
      turned-yes g (record c.args.self.now { begun = true }) c.args.tick.0 past yes (record { spans = stays.spans; shown = stays.shown; rested = stays.rested }),
      sym yes,
      fed.1,
    )
