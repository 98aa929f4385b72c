use Rattle.std.proofs.lemmas.Result.{on_ok_weaker}
use Rattle.chart_feed.proofs.feed.Feed.turn.Goals as goal

pub returns : goal.returns
returns c =
    on_ok_weaker c.turn.result (λ turned axis w past clocked fed.
    let rows = turned past (record { at = clocked.at; clock_is = clocked.clock_is; rows_are = fed.rows_are }) in (
      record {
        axis_is = fed.axis_is;
        window_is = fed.window_is;
        rows_are = rows.rows_are;
        tasks_there = fed.tasks_there;
        clocks_are = fed.clocks_are;
        entries_are = fed.entries_are;
        whole = fed.whole;
      },
      c.has_begun-self.ensures past clocked.clock_is,
    )) c.turn.ensures
