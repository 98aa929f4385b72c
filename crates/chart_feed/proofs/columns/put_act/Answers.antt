use Rattle.std.proofs.Common.{◌∙◌, ◌∷◌, refl, sym, ap, subst}
use Rattle.std.proofs.lemmas.Result.{on_ok_weaker}
use Rattle.rt_model.specs.Past.{Acted}
use Rattle.rank_afresh.specs.Standing.{group_of}
use Rattle.trace_views.specs.Moments.{Moment}
use Rattle.chart_texts.specs.declared.window.Axis.{Axis}
use Rattle.view_acts.specs.ShownActs.{act_shown}
use Rattle.chart_rows.specs.Rows.{rows_acted, rows_closed, rows_seen}
use Rattle.chart_rows.specs.UpTo.{AreUpTo}
use Rattle.chart_rows.proofs.RowLaws.{acted-rows}
use Rattle.chart_rows.proofs.RowParts.{rows-listed}
use Rattle.chart_feed.proofs.Stepping.{acted-by, acted-up-to, after_act, taken}
use Rattle.chart_feed.proofs.columns.put_act.Goals as goal

pub see_after-requires-clause-listed : goal.see_after-requires-clause-listed
see_after-requires-clause-listed c =
    let g = group_of c.args.afresh.now in
    let past = c.requires.1 in
    let can = c.requires.2 in
    let m : Moment = record { act = act_shown c.args.act.now; before = past } in
    let acted = c.in_ok-act.ensures g m (rows-listed g _ _ c.args.rows.now can.rows_are) refl (can.told refl) in
    rows-listed g _ _ c.act.new.self (acted ∙ ap (rows_acted g m) can.rows_are ∙ acted-rows g _ _ m)

pub see_after-requires-clause-at : goal.see_after-requires-clause-at
see_after-requires-clause-at c =
    let g = group_of c.args.afresh.now in
    let past = c.requires.1 in
    let can = c.requires.2 in
    let d = act_shown c.args.act.now in
    let m : Moment = record { act = d; before = past } in
    let acted = c.in_ok-act.ensures g m (rows-listed g _ _ c.args.rows.now can.rows_are) refl (can.told refl) in
    (past, can.at, subst (AreUpTo g past) (sym acted) (acted-up-to g c.requires.0 past c.args.rows.now d c.args.axis (sym can.inside_is) can.rows_are))

pub returns-in-Ticks : goal.returns-in-Ticks
returns-in-Ticks c = λ window past can.
    let g = group_of c.args.afresh.now in
    let d = act_shown c.args.act.now in
    let m : Moment = record { act = d; before = past } in
    let acted = c.in_ok-act.ensures g m (rows-listed g _ _ c.args.rows.now can.rows_are) refl (can.told refl) in
    c.in_ok-see_after.ensures past can.at (subst (AreUpTo g past) (sym acted) (acted-up-to g window past c.args.rows.now d c.args.axis (sym can.inside_is) can.rows_are)) ∙ ap (rows_seen g (Acted d ∷ past)) acted
    ∙ ap (λ (a : Axis). after_act g a (Acted d ∷ past) (rows_seen g (Acted d ∷ past) (rows_acted g m c.args.rows.now))) (sym c.in-Ticks.is)
    ∙ acted-by g window past c.args.rows.now d c.args.axis (sym can.inside_is) can.rows_are

pub close-requires-clause-listed : goal.close-requires-clause-listed
close-requires-clause-listed c =
    let g = group_of c.args.afresh.now in
    let past = c.requires.1 in
    let can = c.requires.2 in
    let d = act_shown c.args.act.now in
    let m : Moment = record { act = d; before = past } in
    let acted = c.in_ok-act.ensures g m (rows-listed g _ _ c.args.rows.now can.rows_are) refl (can.told refl) in
    rows-listed g _ _ c.see_after.new.self (c.in_ok-see_after.ensures past can.at (subst (AreUpTo g past) (sym acted) (acted-up-to g c.requires.0 past c.args.rows.now d c.args.axis (sym can.inside_is) can.rows_are)) ∙ ap (rows_seen g (Acted d ∷ past)) acted ∙ taken g c.requires.0 past c.args.rows.now d c.args.axis can.rows_are)

pub close-requires-clause-at : goal.close-requires-clause-at
close-requires-clause-at c = (_, c.requires.2.at)

pub returns-in-Entries : goal.returns-in-Entries
returns-in-Entries c =
    on_ok_weaker c.close.result (λ closed window past can.
    let g = group_of c.args.afresh.now in
    let d = act_shown c.args.act.now in
    let m : Moment = record { act = d; before = past } in
    let acted = c.in_ok-act.ensures g m (rows-listed g _ _ c.args.rows.now can.rows_are) refl (can.told refl) in
    closed (Acted d ∷ past) can.at
    ∙ ap (rows_closed g (Acted d ∷ past)) (c.in_ok-see_after.ensures past can.at (subst (AreUpTo g past) (sym acted) (acted-up-to g window past c.args.rows.now d c.args.axis (sym can.inside_is) can.rows_are)) ∙ ap (rows_seen g (Acted d ∷ past)) acted)
    ∙ ap (λ (a : Axis). after_act g a (Acted d ∷ past) (rows_seen g (Acted d ∷ past) (rows_acted g m c.args.rows.now))) (sym c.in-Entries.is)
    ∙ acted-by g window past c.args.rows.now d c.args.axis (sym can.inside_is) can.rows_are) c.close.ensures
