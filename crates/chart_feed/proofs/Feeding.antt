-- What a feed keeps as a step is taken.
use Rattle.std.proofs.Common.{◌≡◌, ◌∙◌, ℕ, Bool, [], ◌∷◌, ◌++◌, refl, sym, ap}
use Rattle.std.specs.Prelude.{Option}
use Rattle.std.proofs.lemmas.List.{length-map}
use Rattle.rt_model.specs.Past.{Acted, Clock, Past, PastAct, entries_in, now}
use Rattle.rank_afresh.specs.Standing.{Standing, group_of}
use Rattle.trace_views.specs.Moments.{Moment, moments}
use Rattle.chart_texts.specs.declared.window.Axis.{Axis}
use Rattle.chart_texts.specs.declared.window.Window.{Window}
use Rattle.chart_rows.specs.Foretold.{IsForetold}
use Rattle.chart_rows.specs.Units.{IsTold}
use Rattle.chart_rows.specs.declared.units.Unit.{Unit}
use Rattle.chart_feed.specs.EntryClocks.{EntriesKept, clocks_in, entry_clocks}
use Rattle.chart_feed.specs.Feeds.{IsActed, IsClocked, IsMoved, IsTurned}
use Rattle.chart_feed.specs.inside.Stands.{CanAct, CanSee}
use Rattle.chart_feed.specs.WindowStrips.{entries_of, is_in, position}
use Rattle.chart_feed.specs.declared.feed.Feed.{Feed}
use Rattle.chart_feed.proofs.Edges.{clocks-acted, clocks-clocked}
use Rattle.chart_feed.proofs.Entries.{length-entries}

pub counted : (w : Window) (past : Past) (e : EntriesKept) → e ≡ clocks_in w (entry_clocks past) → e.count ≡ entries_in past
counted w past e is = ap (λ (k : EntriesKept). k.count) is ∙ length-map (entries_of past) now ∙ length-entries past

pub none-noted : entry_clocks [] ≡ []
unfolding moments
none-noted = refl

pub entries-stepped : (w : Window) (d : PastAct) (tick : ℕ) (past : Past) (clock : ℕ) → clock ≡ now (Clock tick ∷ past)
    → clocks_in w (entry_clocks past ++ clock ∷ []) ≡ clocks_in w (entry_clocks (Acted d ∷ Clock tick ∷ past))
entries-stepped w d tick past clock is =
    ap (clocks_in w) ((λ i. sym (clocks-clocked tick past) i ++ is i ∷ []) ∙ sym (clocks-acted d (Clock tick ∷ past)))

-- ---- what a move is taken from, where the column that goes on is inside the window or not

module _ (f : Feed) (axis : Axis) (w : Window) (v : Standing) (tick : ℕ) (past : Past) where
  abbrev IsInside : ℕ → Bool → Type 0
  IsInside clock inside = (x : Past) → clock ≡ now x → f.entries.count ≡ entries_in x → inside ≡ is_in f.window (position f.axis x)

  pub can-see : (clock : ℕ) (inside : Bool) → IsInside clock inside → IsClocked v clock (Clock tick ∷ past) → IsTurned axis w (group_of v) tick past f
      → CanSee v f.axis f.window tick past inside f.begun f.rows
  can-see clock inside by_position clocked turned = record {
    at = clocked.at;
    inside_is = by_position (Clock tick ∷ past) clocked.clock_is (counted f.window past f.entries turned.0.entries_are);
    begun_is = turned.1;
    rows_are = turned.0.rows_are;
  }

  -- the position of the column that goes on is as the axis and the window have it
  pub inside-same : (clock : ℕ) (inside : Bool) → IsInside clock inside → clock ≡ now (Clock tick ∷ past) → IsMoved axis w (group_of v) tick past f
      → inside ≡ is_in w (position axis (Clock tick ∷ past))
  inside-same clock inside by_position clock_is moved =
      by_position (Clock tick ∷ past) clock_is (counted f.window past f.entries moved.entries_are)
      ∙ (λ i. is_in (moved.window_is i) (position (moved.axis_is i) (Clock tick ∷ past)))

  pub can-act : (clock : ℕ) (act : PastAct) (inside : Bool) (unit unit' : Option Unit) → IsInside clock inside
      → ((m : Moment) → act ≡ m.act → IsForetold (group_of v) m unit → IsTold (group_of v) m unit') → IsActed axis w v clock act tick past unit f
      → CanAct v f.axis f.window (Clock tick ∷ past) act inside unit' f.rows
  can-act clock act inside unit unit' by_position told acted = record {
    at = acted.clocked.at;
    inside_is = by_position (Clock tick ∷ past) acted.clocked.clock_is (counted f.window past f.entries acted.moved.entries_are);
    told = λ h. told (record { act = act; before = Clock tick ∷ past }) refl (acted.expected (sym (inside-same clock inside by_position acted.clocked.clock_is acted.moved) ∙ h));
    rows_are = acted.moved.rows_are;
  }
