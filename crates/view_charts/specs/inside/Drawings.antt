-- A group whose steps are taken again while the columns of a window are gathered.
use Rattle.std.specs.Prelude.{◌≡◌, ℕ, ◌⊎◌, true, List, [], drop}
use Rattle.rt_rules.specs.declared.history.Entry.{Entry}
use Rattle.rt_model.specs.Group.{Group}
use Rattle.rt_model.specs.Histories.{past_from}
use Rattle.rt_model.specs.Past.{Past}
use Rattle.chart_texts.specs.declared.window.Axis.{Axis}
use Rattle.chart_texts.specs.declared.window.Window.{Window}
use Rattle.chart_feed.specs.Feeds.{IsFed}
use Rattle.chart_feed.specs.Over.{is_over}
use Rattle.view_replay.specs.Replays as replays
use Rattle.view_charts.specs.declared.drawing.Drawing.{Drawing}

abbrev pub group_of : Drawing → Group
group_of d = replays.group_of d.replay

abbrev pub spare : Drawing → ℕ
spare d = replays.spare d.replay

-- whole steps were taken, which made this past, and the columns are of it
pub record IsDrawn (axis : Axis) (w : Window) (past : Past) (d : Drawing) : Type 0 where
  pub at : replays.IsAt d.replay past
  pub fed : IsFed axis w (group_of d) past d.feed

-- so many of these entries were taken, from a past on; the others follow, and there are none, or the window is over
pub record IsTaken (axis : Axis) (w : Window) (g : Group) (past : Past) (entries : List Entry) (count : ℕ) (d : Drawing) : Type 0 where
  pub early : Past
  pub drawn : IsDrawn axis w early d
  pub others : past_from g early (drop count entries) ≡ past_from g past entries
  pub stopped : (drop count entries ≡ []) ⊎ (is_over axis w early ≡ true)
