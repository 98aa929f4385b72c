use Rattle.std.proofs.Common.{◌≡◌, ◌∙◌, ◌∷◌, ap, subst, sym}
use Rattle.std.proofs.lemmas.Result.{on_ok_weaker}
use Rattle.rt_model.specs.Group.{Group}
use Rattle.rt_model.specs.Histories.{after}
use Rattle.rt_model.specs.Outcomes.{past_act}
use Rattle.rt_model.specs.Past.{Acted, Clock, Past, PastAct}
use Rattle.rt_model.proofs.Steps.{after-acted}
use Rattle.rank_afresh.specs.Standing as ranker
use Rattle.view_acts.specs.ShownActs.{act_shown}
use Rattle.view_replay.specs.Replays as replays
use Rattle.chart_feed.specs.Feeds.{IsExpected, IsFed, IsMoved, IsTurned}
use Rattle.view_charts.proofs.drawing.Drawing.step.Goals as goal

pub see-requires : goal.see-requires
see-requires c =
    let axis = c.requires.drawn.0 in
    let w = c.requires.drawn.1 in
    let past = c.requires.drawn.2 in
    let drawn = c.requires.drawn.3 in
    let tick = c.args.step.tick.0 in
    let fed = subst (λ (g : Group). IsFed axis w g past c.args.self.now.feed) (sym c.afresh.ensures.group) drawn.fed in
    let turned = c.in_ok-turn.ensures axis w past (record { at = c.afresh.ensures.at past drawn.at; clock_is = c.now.ensures.at past drawn.at }) fed in
    let moved = c.clock.ensures.moved past drawn.at in (
      axis,
      w,
      past,
      tick,
      record { at = c.afresh-2.ensures.moved past tick moved; clock_is = c.now-2.ensures.moved past tick moved },
      subst (λ (g : Group). IsTurned axis w g tick past c.turn.new.self) (c.afresh.ensures.group ∙ sym c.clock.ensures.group ∙ sym c.afresh-2.ensures.group) turned,
    )

pub foretell-requires-clause-moved : goal.foretell-requires-clause-moved
foretell-requires-clause-moved c =
    let axis = c.requires.drawn.0 in
    let w = c.requires.drawn.1 in
    let past = c.requires.drawn.2 in
    let drawn = c.requires.drawn.3 in
    let tick = c.args.step.tick.0 in
    let fed = subst (λ (g : Group). IsFed axis w g past c.args.self.now.feed) (sym c.afresh.ensures.group) drawn.fed in
    let turned = c.in_ok-turn.ensures axis w past (record { at = c.afresh.ensures.at past drawn.at; clock_is = c.now.ensures.at past drawn.at }) fed in
    let moved = c.clock.ensures.moved past drawn.at in
    let seen = c.in_ok-see.ensures axis w past tick (record { at = c.afresh-2.ensures.moved past tick moved; clock_is = c.now-2.ensures.moved past tick moved })
    (subst (λ (g : Group). IsTurned axis w g tick past c.turn.new.self) (c.afresh.ensures.group ∙ sym c.clock.ensures.group ∙ sym c.afresh-2.ensures.group) turned) in (
      axis,
      w,
      past,
      tick,
      record { at = c.afresh-3.ensures.moved past tick moved; clock_is = c.now-3.ensures.moved past tick moved },
      subst (λ (g : Group). IsMoved axis w g tick past c.see.new.self) (c.afresh-2.ensures.group ∙ sym c.afresh-3.ensures.group) seen,
    )

pub act-requires-clause-acted : goal.act-requires-clause-acted
act-requires-clause-acted c =
    let axis = c.requires.drawn.0 in
    let w = c.requires.drawn.1 in
    let past = c.requires.drawn.2 in
    let drawn = c.requires.drawn.3 in
    let tick = c.args.step.tick.0 in
    let fed = subst (λ (g : Group). IsFed axis w g past c.args.self.now.feed) (sym c.afresh.ensures.group) drawn.fed in
    let turned = c.in_ok-turn.ensures axis w past (record { at = c.afresh.ensures.at past drawn.at; clock_is = c.now.ensures.at past drawn.at }) fed in
    let moved = c.clock.ensures.moved past drawn.at in
    let seen = c.in_ok-see.ensures axis w past tick (record { at = c.afresh-2.ensures.moved past tick moved; clock_is = c.now-2.ensures.moved past tick moved })
    (subst (λ (g : Group). IsTurned axis w g tick past c.turn.new.self) (c.afresh.ensures.group ∙ sym c.clock.ensures.group ∙ sym c.afresh-2.ensures.group) turned) in
    let gone = subst (λ (g : Group). IsMoved axis w g tick past c.see.new.self) (c.afresh-2.ensures.group ∙ sym c.afresh-3.ensures.group) seen in
    let told = c.in_ok-unit.ensures axis w past tick (record { at = c.afresh-3.ensures.moved past tick moved; clock_is = c.now-3.ensures.moved past tick moved }) gone in
    let d : PastAct = act_shown c.act-act.result in
    let act_is = c.act-act.ensures.act past moved in
    let g = replays.group_of c.clock.new.self in
    let then : after g c.args.step past ≡ Acted d ∷ Clock tick ∷ past = after-acted g c.args.step past ∙ ap (λ (x : PastAct). Acted x ∷ Clock tick ∷ past) (sym act_is) in
    let at = subst (replays.IsAt c.act-act.new.self) then (c.act-act.ensures.at past moved) in
    let same = c.afresh-3.ensures.group ∙ sym c.act-act.ensures.group ∙ sym c.afresh-4.ensures.group in
    let is = act_is ∙ ap (λ (x : Group). past_act x c.args.step.cpu.0 c.args.step.act (Clock tick ∷ past)) (sym c.afresh-3.ensures.group) in (
      axis,
      w,
      past,
      tick,
      record {
        clocked = record { at = c.afresh-4.ensures.at (Acted d ∷ Clock tick ∷ past) at; clock_is = c.now-4.ensures.at (Acted d ∷ Clock tick ∷ past) at };
        expected =
            subst (λ (x : Group). IsExpected axis w x (record { act = d; before = Clock tick ∷ past }) c.in_ok-unit.unit) same
            (subst (λ (x : PastAct). IsExpected axis w (ranker.group_of c.afresh-3.result.now) (record { act = x; before = Clock tick ∷ past }) c.in_ok-unit.unit) (sym is) told);
        moved = subst (λ (x : Group). IsMoved axis w x tick past c.see.new.self) same gone;
      },
    )

pub returns-clause-drawn : goal.returns-clause-drawn
returns-clause-drawn c =
    on_ok_weaker c.act.result (λ acted axis w past drawn.
    let tick = c.args.step.tick.0 in
    let fed = subst (λ (g : Group). IsFed axis w g past c.args.self.now.feed) (sym c.afresh.ensures.group) drawn.fed in
    let turned = c.in_ok-turn.ensures axis w past (record { at = c.afresh.ensures.at past drawn.at; clock_is = c.now.ensures.at past drawn.at }) fed in
    let moved = c.clock.ensures.moved past drawn.at in
    let seen = c.in_ok-see.ensures axis w past tick (record { at = c.afresh-2.ensures.moved past tick moved; clock_is = c.now-2.ensures.moved past tick moved })
    (subst (λ (g : Group). IsTurned axis w g tick past c.turn.new.self) (c.afresh.ensures.group ∙ sym c.clock.ensures.group ∙ sym c.afresh-2.ensures.group) turned) in
    let gone = subst (λ (g : Group). IsMoved axis w g tick past c.see.new.self) (c.afresh-2.ensures.group ∙ sym c.afresh-3.ensures.group) seen in
    let told = c.in_ok-unit.ensures axis w past tick (record { at = c.afresh-3.ensures.moved past tick moved; clock_is = c.now-3.ensures.moved past tick moved }) gone in
    let d : PastAct = act_shown c.act-act.result in
    let act_is = c.act-act.ensures.act past moved in
    let g = replays.group_of c.clock.new.self in
    let then : after g c.args.step past ≡ Acted d ∷ Clock tick ∷ past = after-acted g c.args.step past ∙ ap (λ (x : PastAct). Acted x ∷ Clock tick ∷ past) (sym act_is) in
    let at = subst (replays.IsAt c.act-act.new.self) then (c.act-act.ensures.at past moved) in
    let same = c.afresh-3.ensures.group ∙ sym c.act-act.ensures.group ∙ sym c.afresh-4.ensures.group in
    let is = act_is ∙ ap (λ (x : Group). past_act x c.args.step.cpu.0 c.args.step.act (Clock tick ∷ past)) (sym c.afresh-3.ensures.group) in
    let took = acted axis w past tick (record {
      clocked = record { at = c.afresh-4.ensures.at (Acted d ∷ Clock tick ∷ past) at; clock_is = c.now-4.ensures.at (Acted d ∷ Clock tick ∷ past) at };
      expected =
          subst (λ (x : Group). IsExpected axis w x (record { act = d; before = Clock tick ∷ past }) c.in_ok-unit.unit) same
          (subst (λ (x : PastAct). IsExpected axis w (ranker.group_of c.afresh-3.result.now) (record { act = x; before = Clock tick ∷ past }) c.in_ok-unit.unit) (sym is) told);
      moved = subst (λ (x : Group). IsMoved axis w x tick past c.see.new.self) same gone;
    }) in
    record {
      at = subst (λ (x : Group). replays.IsAt c.act-act.new.self (after x c.args.step past)) c.clock.ensures.group (c.act-act.ensures.at past moved);
      fed =
          subst (λ (p : Past). IsFed axis w (replays.group_of c.act-act.new.self) p c.act.new.self) (sym then ∙ ap (λ (x : Group). after x c.args.step past) c.clock.ensures.group)
          (subst (λ (x : Group). IsFed axis w x (Acted d ∷ Clock tick ∷ past) c.act.new.self) c.afresh-4.ensures.group took);
    }) c.act.ensures
