use Rattle.std.proofs.Common.{◌∙◌, ◌∷◌, ap, length, subst, sym}
use Rattle.std.proofs.lemmas.Result.{on_ok_weaker}
use Rattle.rt_model.specs.Group.{Group}
use Rattle.rt_model.specs.Past.{Clock}
use Rattle.span_feed.specs.Feeds.{IsFed, IsTurned}
use Rattle.view_events.proofs.recording.RecordingPlayer.move_clock.Goals as goal

pub turn-requires-clause-fed : goal.turn-requires-clause-fed
turn-requires-clause-fed c =
    let past = c.requires.at.1 in
    let is = c.requires.at.2.1 in
    (past, c.now.ensures.at past is.at, c.afresh.ensures.at past is.at, subst (λ (g : Group). IsFed g past c.args.self.now.feed) (sym c.afresh.ensures.group) is.fed)

pub see-requires : goal.see-requires
see-requires c =
    let past = c.requires.at.1 in
    let is = c.requires.at.2.1 in
    let tick = c.args.tick.0 in
    let fed = subst (λ (g : Group). IsFed g past c.args.self.now.feed) (sym c.afresh.ensures.group) is.fed in
    let turned = c.in_ok-turn.ensures past (c.now.ensures.at past is.at) (c.afresh.ensures.at past is.at) fed in
    let moved = c.clock.ensures.moved past is.at in
    record {
      turned = (
        past,
        tick,
        c.afresh-2.ensures.moved past tick moved,
        subst (λ (g : Group). IsTurned g tick past c.turn.new.self) (c.afresh.ensures.group ∙ sym c.clock.ensures.group ∙ sym c.afresh-2.ensures.group) turned,
        c.now-2.ensures.moved past tick moved,
      );
    }

pub returns-clause-moved : goal.returns-clause-moved
returns-clause-moved c =
    on_ok_weaker c.see.result (λ seen g past (same, is).
    let tick = c.args.tick.0 in
    let fed = subst (λ (g : Group). IsFed g past c.args.self.now.feed) (sym c.afresh.ensures.group) is.fed in
    let turned = c.in_ok-turn.ensures past (c.now.ensures.at past is.at) (c.afresh.ensures.at past is.at) fed in
    let moved = c.clock.ensures.moved past is.at in (
      c.clock.ensures.group ∙ same,
      record {
        at = moved;
        fed =
            subst (λ (g : Group). IsFed g (Clock tick ∷ past) c.see.new.self) c.afresh-2.ensures.group
            (seen past tick (c.afresh-2.ensures.moved past tick moved) (c.now-2.ensures.moved past tick moved)
            (subst (λ (g : Group). IsTurned g tick past c.turn.new.self) (c.afresh.ensures.group ∙ sym c.clock.ensures.group ∙ sym c.afresh-2.ensures.group) turned));
        kept = is.kept;
        tasks = is.tasks ∙ sym (ap (λ (g : Group). length g.setup.tasks) c.clock.ensures.group);
      },
    )) c.see.ensures
