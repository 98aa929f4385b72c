-- What is kept of a group for its spans, by ticks that are the same.
use Rattle.std.proofs.Common.{◌≡◌, ℕ, max, Bool, true, false, List, sym, subst}
use Rattle.std.specs.Prelude.{nat_le}
use Rattle.rt_model.specs.Group.{Group}
use Rattle.rt_model.specs.Past.{Past, now}
use Rattle.chart_rows.specs.Strips.{Strip}
use Rattle.span_feed.specs.Feeds.{Begins, HasTurned, Holds}
use Rattle.span_feed.specs.TickStrips.{ticks_below, turned_strip}
use Rattle.span_feed.specs.declared.feed.SpanFeed.{SpanFeed}

module _ (g : Group) where
  pub holds-same : {f : SpanFeed} (over over' : List Strip) (going going' : Strip) → over ≡ over' → going ≡ going' → Holds g over going f → Holds g over' going' f
  holds-same {f = f} over over' going going' is_over is_going has = subst (λ (ss : List Strip). Holds g ss going' f) is_over (subst (λ (s : Strip). Holds g over s f) is_going has)

  module _ (f : SpanFeed) where
    pub begins-same : (over over' : List Strip) → over ≡ over' → Begins g over f → Begins g over' f
    begins-same over over' is has = subst (λ (ss : List Strip). Begins g ss f) is has

    module _ (tick : ℕ) (past : Past) where
      pub turned-yes : nat_le tick (now past) ≡ true → Holds g (ticks_below past (max (now past) tick)) (turned_strip tick past) f → HasTurned g (nat_le tick (now past)) tick past f
      turned-yes low has = subst (λ (b : Bool). HasTurned g b tick past f) (sym low) has

      pub turned-no : nat_le tick (now past) ≡ false → Begins g (ticks_below past (max (now past) tick)) f → HasTurned g (nat_le tick (now past)) tick past f
      turned-no later has = subst (λ (b : Bool). HasTurned g b tick past f) (sym later) has
