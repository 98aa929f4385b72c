use Rattle.std.proofs.Common.{◌≡◌, ◌∙◌, ◌∷◌, List, ap, arith, length, sym, subst}
use Rattle.std.proofs.lemmas.List.{with_items_is}
use Rattle.std.proofs.lemmas.Result.{on_ok_weaker}
use Rattle.rt_model.specs.Past.{Acted, Clock, Past, PastAct}
use Rattle.rank_afresh.specs.Standing.{group_of}
use Rattle.view_acts.specs.ShownActs.{act_shown}
use Rattle.chart_feed.specs.Clocks.{ClocksKept, Keeps}
use Rattle.chart_feed.specs.EntryClocks.{entry_clocks}
use Rattle.chart_feed.specs.declared.feed.Feed.{Feed}
use Rattle.chart_feed.proofs.Feeding.{can-act, counted, entries-stepped}
use Rattle.chart_feed.proofs.Noted.{keeps-clocked}
use Rattle.chart_feed.proofs.feed.Feed.act.Goals as goal

pub take_act-requires : goal.take_act-requires
take_act-requires c =
    let f : Feed = c.args.self.now in
    let axis = c.requires.acted.0 in
    let w = c.requires.acted.1 in
    let past = c.requires.acted.2 in
    let tick = c.requires.acted.3 in (
      f.window,
      Clock tick ∷ past,
      can-act f axis w c.args.afresh.now tick past c.args.clock.0 (act_shown c.args.act.now) c.is_inside-inside.result c.args.unit.now c.keep_if_done.new.unit
          c.is_inside-inside.ensures (c.keep_if_done.ensures (group_of c.args.afresh.now)) c.requires.acted.4,
    )

pub note-requires-clause-count : goal.note-requires-clause-count
note-requires-clause-count c =
    let past : Past = c.requires.acted.2 in
    let f : Feed = c.args.self.now in
    omega (arith, counted f.window past f.entries c.requires.acted.4.moved.entries_are, c.requires.acted.4.clocked.at.few)

pub returns : goal.returns
returns c =
    on_ok_weaker c.note.result (λ noted axis window past tick acted.
    let f : Feed = c.args.self.now in
    let d : PastAct = act_shown c.args.act.now in
    let long : length c.note_act.new.tasks ≡ f.tasks.len = omega (arith, c.note_act.auto.tasks, ap length c.as_mut_slice.ensures.value, f.tasks.ok.0) in
    let made = with_items_is f.tasks c.note_act.new.tasks long in
    let keeps : Keeps c.as_mut_slice.result.now (Clock tick ∷ past) =
    subst (λ (ks : List ClocksKept). Keeps ks (Clock tick ∷ past)) (sym c.as_mut_slice.ensures.value) (keeps-clocked tick past f.tasks.items acted.moved.clocks_are) in
    record {
      axis_is = acted.moved.axis_is;
      window_is = acted.moved.window_is;
      rows_are =
          c.in_ok-take_act.ensures f.window (Clock tick ∷ past)
          (can-act f axis window c.args.afresh.now tick past c.args.clock.0 d c.is_inside-inside.result c.args.unit.now c.keep_if_done.new.unit c.is_inside-inside.ensures
          (c.keep_if_done.ensures (group_of c.args.afresh.now)) acted);
      tasks_there = ap length made ∙ c.note_act.auto.tasks ∙ ap length c.as_mut_slice.ensures.value ∙ acted.moved.tasks_there;
      clocks_are =
          subst (λ (ks : List ClocksKept). Keeps ks (Acted d ∷ Clock tick ∷ past)) (sym made) (c.in_ok-note_act.ensures (Clock tick ∷ past) keeps acted.clocked.clock_is);
      entries_are = noted (entry_clocks past) acted.moved.entries_are ∙ entries-stepped f.window d tick past c.args.clock.0 acted.clocked.clock_is;
      whole = tt;
    }) c.note.ensures
