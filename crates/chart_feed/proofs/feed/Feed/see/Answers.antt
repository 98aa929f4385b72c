use Rattle.std.proofs.lemmas.Result.{on_ok_weaker}
use Rattle.chart_feed.specs.declared.feed.Feed.{Feed}
use Rattle.chart_feed.proofs.Feeding.{can-see}
use Rattle.chart_feed.proofs.feed.Feed.see.Goals as goal

pub take_state-requires : goal.take_state-requires
take_state-requires c =
    let f : Feed = c.args.self.now in (
      f.axis,
      f.window,
      c.requires.3,
      c.requires.2,
      can-see f c.requires.0 c.requires.1 c.args.afresh.now c.requires.3 c.requires.2 c.args.clock.0 c.is_inside-inside.result c.is_inside-inside.ensures c.requires.4 c.requires.5,
    )

pub returns : goal.returns
returns c =
    on_ok_weaker c.take_state.result (λ seen axis window past tick clocked turned.
    let f : Feed = c.args.self.now in
    record {
      axis_is = turned.0.axis_is;
      window_is = turned.0.window_is;
      rows_are = seen f.axis f.window tick past (can-see f axis window c.args.afresh.now tick past c.args.clock.0 c.is_inside-inside.result c.is_inside-inside.ensures clocked turned);
      tasks_there = turned.0.tasks_there;
      clocks_are = turned.0.clocks_are;
      entries_are = turned.0.entries_are;
      whole = turned.0.whole;
    }) c.take_state.ensures
