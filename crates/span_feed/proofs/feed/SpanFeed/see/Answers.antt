use Rattle.std.proofs.Common.{◌≡◌, ◌∙◌, ◌<◌, ◌≤◌, Bool, true, false, List, [], ◌∷◌, ap, length, max, refl, subst, sym, arith}
use Rattle.std.proofs.lemmas.Bool.Decides.{nat_tests}
use Rattle.std.specs.Prelude.{nat_le}
use Rattle.std.proofs.lemmas.List.{length-map}
use Rattle.rt_model.specs.Past.{Clock, now}
use Rattle.rank_afresh.specs.Standing.{group_of}
use Rattle.chart_rows.specs.Rows.{RowsKept, task_cleared, task_seen}
use Rattle.chart_rows.specs.Strips.{Strip, blank, seen}
use Rattle.chart_rows.proofs.AwayLaws.{away-after-clock}
use Rattle.chart_rows.proofs.ReadyTasks.{ready-after-clock}
use Rattle.chart_rows.proofs.RowParts.{rows-listed}
use Rattle.span_feed.specs.Begun.{rows_cleared}
use Rattle.span_feed.specs.Feeds.{HasTurned, Holds, tracks_to}
use Rattle.span_feed.specs.Still.{AreKnown, AreRested}
use Rattle.span_feed.specs.TickStrips.{ticks_below, turned_strip}
use Rattle.span_feed.specs.declared.feed.SpanFeed.{SpanFeed}
use Rattle.span_feed.proofs.Fed.{holds-same}
use Rattle.span_feed.proofs.Feeding.{moved-still, state-seen}
use Rattle.span_feed.proofs.Holding.{all-first-shown, begun-column, begun-listed, begun-seen}
use Rattle.span_feed.proofs.Stillness.{lanes-beside, rested-map, rested-more, still-rested}
use Rattle.span_feed.proofs.TickLaws.{below-same, strip-moved, turned-later}
use Rattle.span_feed.proofs.feed.SpanFeed.see.Goals as goal

pub returns-then-self : goal.returns-then-self
returns-then-self c = λ past tick at clock turned.
    let g = group_of c.args.afresh.now in
    let f : SpanFeed = c.args.self.now in
    let over : List Strip = ticks_below past (max (now past) tick) in
    let begun : nat_le tick (now past) ≡ true = sym turned.1 ∙ c.if-self.true in
    let low : tick ≤ now past = grind (arith, nat_tests, begun) in
    let has = subst (λ (b : Bool). HasTurned g b tick past f) begun turned.0 in
    let tracks = tracks_to (length over) f.lanes in
    let spans = state-seen g tracks over (turned_strip tick past) (Clock tick ∷ past) f.rows f.rows has.spans (moved-still g past over f.rows tracks tick low has.spans) in
    let held : Holds g over (seen (Clock tick ∷ past) (turned_strip tick past)) f = record { spans = spans; shown = has.shown; rested = has.rested } in
    (holds-same g {f = f} _ _ _ _ (below-same tick past) (strip-moved tick past) held, (turned.2.0, (ready-after-clock g tick past _ turned.2.0 at.core_at.reachable turned.2.1.0, away-after-clock g tick past _ turned.2.1.1)))

pub see_first-requires-clause-listed : goal.see_first-requires-clause-listed
see_first-requires-clause-listed c =
    let g = group_of c.args.afresh.now in
    let f : SpanFeed = c.args.self.now in
    let h = c.requires.turned in
    let not : nat_le h.1 (now h.0) ≡ false = sym h.3.1 ∙ c.if-self.false in
    let has = subst (λ (b : Bool). HasTurned g b h.1 h.0 f) not h.3.0 in
    begun-listed g f.rows (rows-listed g [] blank (rows_cleared g f.rows) has.column.spans.rows_are)

pub see_first-requires-clause-long : goal.see_first-requires-clause-long
see_first-requires-clause-long c =
    let g = group_of c.args.afresh.now in
    let f : SpanFeed = c.args.self.now in
    let h = c.requires.turned in
    let not : nat_le h.1 (now h.0) ≡ false = sym h.3.1 ∙ c.if-self.false in
    let has = subst (λ (b : Bool). HasTurned g b h.1 h.0 f) not h.3.0 in
    lanes-beside g _ blank (rows_cleared g f.rows) _ _ f.lanes.tasks.items has.column.spans refl ∙ length-map f.rows.tasks (task_cleared g)

pub see_first-requires-clause-at : goal.see_first-requires-clause-at
see_first-requires-clause-at c =
    let h = c.requires.turned in
    let known = h.3.2 in
    let g = group_of c.args.afresh.now in
    (Clock h.1 ∷ h.0, h.2, h.4, (ready-after-clock g h.1 h.0 _ known.0 h.2.core_at.reachable known.1.0, away-after-clock g h.1 h.0 _ known.1.1))

pub see_first-requires-clause-still : goal.see_first-requires-clause-still
see_first-requires-clause-still c =
    let f : SpanFeed = c.args.self.now in
    let h = c.requires.turned in
    let not : nat_le h.1 (now h.0) ≡ false = sym h.3.1 ∙ c.if-self.false in
    (subst (λ (b : Bool). HasTurned (group_of c.args.afresh.now) b h.1 h.0 f) not h.3.0).still

pub returns : goal.returns
returns c = λ past tick at clock turned.
    let g = group_of c.args.afresh.now in
    let f : SpanFeed = c.args.self.now in
    let x = Clock tick ∷ past in
    let over : List Strip = ticks_below past (max (now past) tick) in
    let not : nat_le tick (now past) ≡ false = sym turned.1 ∙ c.if-self.false in
    let later : now past < tick = grind (arith, nat_tests, not) in
    let has = subst (λ (b : Bool). HasTurned g b tick past f) not turned.0 in
    let ready = ready-after-clock g tick past f.ready turned.2.0 at.core_at.reachable turned.2.1.0 in
    let new = c.see_first.new.rows in
    let lanes = f.lanes.tasks.items in
    let before : AreKnown g x f.ready f.away = (ready, away-after-clock g tick past f.away turned.2.1.1) in
    let made = c.in_ok-see_first.ensures.rows x at clock before in
    let more = c.in_ok-see_first.ensures.knows x at before in
    let spans = begun-column g f.ready over x f.rows new (tracks_to (length over) f.lanes) ready has.column made in
    let shown = all-first-shown g x c.see_first.new.ready more.0 f.rows new (made ∙ begun-seen g x f.ready ready f.rows has.column.begun) in
    let known = rested-more f.ready lanes f.rows.tasks c.see_first.new.ready c.in_ok-see_first.ensures.known (still-rested f.ready lanes f.rows.tasks has.still) in
    let rested = subst (λ (v : RowsKept). AreRested c.see_first.new.ready lanes v.tasks) (sym made) (rested-map c.see_first.new.ready lanes f.rows.tasks (task_seen g x) (λ k. refl) known) in
    let going = ap (seen x) (sym (turned-later tick past later)) ∙ strip-moved tick past in
    (holds-same g over _ (seen x blank) _ (below-same tick past) going (record { spans = spans; shown = shown; rested = rested }), (turned.2.0, more))
