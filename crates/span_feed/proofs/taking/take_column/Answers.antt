use Rattle.std.proofs.Common.{◌≡◌, ◌∙◌, List, length, map, refl, sym, ap, subst, arith, All}
use Rattle.std.specs.Prelude.{None, slice_index_or}
use Rattle.std.proofs.lemmas.List.{length-map, with_items_is}
use Rattle.chart_rows.specs.Rows.{RowsKept, TaskKept, task_cleared}
use Rattle.event_lines.specs.Shown.{cpu_track_shown, resv_track_shown}
use Rattle.span_feed.specs.Begun.{IsBegun, IsRunOrReady}
use Rattle.span_feed.specs.Feeds.{tracks_to}
use Rattle.span_feed.specs.Lane.{TaskLane, track_to}
use Rattle.span_feed.specs.Spanned.{cpu_cleared, cpu_more, paired, resv_cleared, resv_more, task_more}
use Rattle.span_feed.specs.Still.{AreRested, AreStill}
use Rattle.span_feed.proofs.Tracking.{column-taken, cpus-beside, resvs-beside, tasks-beside}
use Rattle.span_feed.proofs.taking.take_column.Goals as goal

pub take_tasks-requires-clause-long : goal.take_tasks-requires-clause-long
take_tasks-requires-clause-long c =
    let h = c.requires.ended in
    let is = c.as_mut_slice.ensures.value ∙ ap (λ (v : RowsKept). v.tasks) c.rows.view_is in
    ap length c.as_mut_slice-2.ensures.value ∙ sym (length-map c.args.lanes.now.tasks.items (track_to c.args.from))
    ∙ tasks-beside h.0 h.1 h.2 c.args.rows.now (tracks_to c.args.from c.args.lanes.now) h.3.rows_are h.3.tracks_are ∙ sym (ap length is)

pub take_tasks-requires-clause-shown : goal.take_tasks-requires-clause-shown
take_tasks-requires-clause-shown c =
    let is = c.as_mut_slice.ensures.value ∙ ap (λ (v : RowsKept). v.tasks) c.rows.view_is in
    subst (All (λ (k : TaskKept). IsRunOrReady (slice_index_or c.args.ready.now k.task None) k)) (sym is) c.requires.shown

pub take_tasks-requires-clause-rested : goal.take_tasks-requires-clause-rested
take_tasks-requires-clause-rested c =
    let is = c.as_mut_slice.ensures.value ∙ ap (λ (v : RowsKept). v.tasks) c.rows.view_is in
    subst (λ (ls : List TaskLane). AreRested c.args.ready.now ls c.as_mut_slice.result.now) (sym c.as_mut_slice-2.ensures.value) (subst (AreRested c.args.ready.now c.args.lanes.now.tasks.items) (sym is) c.requires.rested)

pub take_cpus-requires : goal.take_cpus-requires
take_cpus-requires c =
    let h = c.requires.ended in
    let is = c.as_mut_slice-3.ensures.value ∙ ap (λ (v : RowsKept). v.cpus) c.rows.view_is in
    ap length c.as_mut_slice-4.ensures.value ∙ sym (length-map c.args.lanes.now.cpus.items cpu_track_shown)
    ∙ cpus-beside h.0 h.1 h.2 c.args.rows.now (tracks_to c.args.from c.args.lanes.now) h.3.rows_are h.3.tracks_are ∙ sym (ap length is)

pub take_resvs-requires : goal.take_resvs-requires
take_resvs-requires c =
    let h = c.requires.ended in
    let is = c.as_mut_slice-5.ensures.value ∙ ap (λ (v : RowsKept). v.resvs) c.rows.view_is in
    ap length c.as_mut_slice-6.ensures.value ∙ sym (length-map c.args.lanes.now.resvs.items resv_track_shown)
    ∙ resvs-beside h.0 h.1 h.2 c.args.rows.now (tracks_to c.args.from c.args.lanes.now) h.3.rows_are h.3.tracks_are ∙ sym (ap length is)

pub returns-clause-begun : goal.returns-clause-begun
returns-clause-begun c = λ g ss s at later has.
    let tasks_is = c.as_mut_slice.ensures.value ∙ ap (λ (v : RowsKept). v.tasks) c.rows.view_is in
    let tasks_long : length c.take_tasks.new.rows ≡ c.rows.inside.tasks.len = omega (arith, c.take_tasks.auto.rows, ap length c.as_mut_slice.ensures.value, c.rows.inside.tasks.ok.0) in
    let lanes_long : length c.take_tasks.new.lanes ≡ c.args.lanes.now.tasks.len = omega (arith, c.take_tasks.auto.lanes, ap length c.as_mut_slice-2.ensures.value, c.args.lanes.now.tasks.ok.0) in
    let new_rows = with_items_is c.rows.inside.tasks c.take_tasks.new.rows tasks_long in
    let tasks = ap (map (task_cleared g)) new_rows ∙ c.in_ok-take_tasks.ensures.cleared g ∙ ap (map (task_cleared g)) tasks_is in
    let task_tracks =
    ap (map (track_to c.args.to)) (with_items_is c.args.lanes.now.tasks c.take_tasks.new.lanes lanes_long) ∙ c.in_ok-take_tasks.ensures.lanes
    ∙ (λ i. paired (task_more c.args.from c.args.to) (tasks_is i) (map (track_to c.args.from) (c.as_mut_slice-2.ensures.value i))) in
    let cpus_is = c.as_mut_slice-3.ensures.value ∙ ap (λ (v : RowsKept). v.cpus) c.rows.view_is in
    let cpus_long : length c.take_cpus.new.rows ≡ c.rows.inside.cpus.len = omega (arith, c.take_cpus.auto.rows, ap length c.as_mut_slice-3.ensures.value, c.rows.inside.cpus.ok.0) in
    let cpu_tracks_long : length c.take_cpus.new.tracks ≡ c.args.lanes.now.cpus.len = omega (arith, c.take_cpus.auto.tracks, ap length c.as_mut_slice-4.ensures.value, c.args.lanes.now.cpus.ok.0) in
    let cpus = with_items_is c.rows.inside.cpus c.take_cpus.new.rows cpus_long ∙ c.in_ok-take_cpus.ensures.rows ∙ ap (map cpu_cleared) cpus_is in
    let cpu_tracks =
    ap (map cpu_track_shown) (with_items_is c.args.lanes.now.cpus c.take_cpus.new.tracks cpu_tracks_long) ∙ c.in_ok-take_cpus.ensures.tracks
    ∙ (λ i. paired (cpu_more c.args.from c.args.to) (cpus_is i) (map cpu_track_shown (c.as_mut_slice-4.ensures.value i))) in
    let resvs_is = c.as_mut_slice-5.ensures.value ∙ ap (λ (v : RowsKept). v.resvs) c.rows.view_is in
    let resvs_long : length c.take_resvs.new.rows ≡ c.rows.inside.resvs.len = omega (arith, c.take_resvs.auto.rows, ap length c.as_mut_slice-5.ensures.value, c.rows.inside.resvs.ok.0) in
    let resv_tracks_long : length c.take_resvs.new.tracks ≡ c.args.lanes.now.resvs.len = omega (arith, c.take_resvs.auto.tracks, ap length c.as_mut_slice-6.ensures.value, c.args.lanes.now.resvs.ok.0) in
    let resvs = with_items_is c.rows.inside.resvs c.take_resvs.new.rows resvs_long ∙ c.in_ok-take_resvs.ensures.rows ∙ ap (map resv_cleared) resvs_is in
    let resv_tracks =
    ap (map resv_track_shown) (with_items_is c.args.lanes.now.resvs c.take_resvs.new.tracks resv_tracks_long) ∙ c.in_ok-take_resvs.ensures.tracks
    ∙ (λ i. paired (resv_more c.args.from c.args.to) (resvs_is i) (map resv_track_shown (c.as_mut_slice-6.ensures.value i))) in
    record {
      spans = column-taken g ss s c.args.from c.args.to at later c.args.rows.now _ (tracks_to c.args.from c.args.lanes.now) _ tasks cpus resvs refl task_tracks cpu_tracks resv_tracks has;
      begun = subst (All (IsBegun g c.args.ready.now)) (sym new_rows) (c.in_ok-take_tasks.ensures.begun g);
    }

pub returns-clause-still : goal.returns-clause-still
returns-clause-still c = λ g.
    let tasks_long : length c.take_tasks.new.rows ≡ c.rows.inside.tasks.len = omega (arith, c.take_tasks.auto.rows, ap length c.as_mut_slice.ensures.value, c.rows.inside.tasks.ok.0) in
    let lanes_long : length c.take_tasks.new.lanes ≡ c.args.lanes.now.tasks.len = omega (arith, c.take_tasks.auto.lanes, ap length c.as_mut_slice-2.ensures.value, c.args.lanes.now.tasks.ok.0) in
    let rows = with_items_is c.rows.inside.tasks c.take_tasks.new.rows tasks_long in
    let lanes = with_items_is c.args.lanes.now.tasks c.take_tasks.new.lanes lanes_long in
    subst (λ (x : List TaskLane × List TaskKept). AreStill c.args.ready.now x.0 x.1) (λ i. (sym lanes i, sym rows i)) (c.in_ok-take_tasks.ensures.still g)
