use Rattle.std.proofs.Common.{◌∙◌, length, sym, ap, subst}
use Rattle.std.proofs.lemmas.Result.{on_ok_weaker}
use Rattle.rt_model.specs.Group.{Group}
use Rattle.rt_model.specs.Histories.{after}
use Rattle.rt_model.specs.Steps.{IsStepOf}
use Rattle.view_acts.specs.ShownActs.{act_shown}
use Rattle.view_replay.specs.Replays.{IsAt}
use Rattle.job_views.specs.Tables.{Keeps}
use Rattle.view_tables.proofs.Playing.{can-feed, kept-after}
use Rattle.view_tables.proofs.played.Played.step.Goals as goal

pub feed-requires-clause-next : goal.feed-requires-clause-next
feed-requires-clause-next c =
    let past = c.requires.played.0 in
    let is = c.requires.played.1 in
    let moved = c.clock.ensures.moved past is.at in
    let of = subst (λ (g : Group). IsStepOf g c.args.step) (sym c.clock.ensures.group) c.requires.step in (
      _,
      can-feed c.args.self.now.table c.clock.new.self c.args.step past moved (act_shown c.act-act.result) (c.act-act.ensures.act past moved) c.now.result.0 (c.now.ensures.at _ (c.act-act.ensures.at past moved)) of is.kept,
    )

pub returns-clause-played : goal.returns-clause-played
returns-clause-played c =
    on_ok_weaker c.feed.result (λ fed past is.
    let step = c.args.step in
    let moved = c.clock.ensures.moved past is.at in
    let of = subst (λ (g : Group). IsStepOf g step) (sym c.clock.ensures.group) c.requires.step in
    let d = act_shown c.act-act.result in
    let told = c.act-act.ensures.act past moved in
    let can = can-feed c.args.self.now.table c.clock.new.self step past moved d told c.now.result.0 (c.now.ensures.at _ (c.act-act.ensures.at past moved)) of is.kept in
    record {
      at = subst (λ (g : Group). IsAt c.act-act.new.self (after g step past)) c.clock.ensures.group (c.act-act.ensures.at past moved);
      kept = subst (λ (g : Group). Keeps c.feed.new.self (after g step past)) c.clock.ensures.group (kept-after c.args.self.now.table c.clock.new.self step past moved d told c.feed.new.self (fed _ can));
      tasks = c.feed.ensures.count ∙ is.tasks ∙ sym (ap (λ (g : Group). length g.setup.tasks) (c.act-act.ensures.group ∙ c.clock.ensures.group));
    }) c.feed.ensures.kept
