use Rattle.std.proofs.Common.{◌≡◌, ◌∙◌, ◌∷◌, ap, length, subst, sym}
use Rattle.rt_model.specs.Group.{Group}
use Rattle.rt_model.specs.Histories.{after, reply_to}
use Rattle.rt_model.specs.Outcomes.{past_act}
use Rattle.rt_model.specs.Past.{Acted, Clock, Past, PastAct, now}
use Rattle.rt_model.proofs.Steps.{after-acted}
use Rattle.chart_rows.specs.Foretold.{IsForetold}
use Rattle.rank_afresh.specs.Standing as ranker
use Rattle.span_feed.specs.Feeds.{IsFed}
use Rattle.job_marks.specs.JobTimes.{KeepsTimes}
use Rattle.job_marks.proofs.Feeding.{kept-clock}
use Rattle.view_acts.specs.ShownActs.{act_shown}
use Rattle.view_replay.specs.Replays as replays
use Rattle.view_replay.proofs.Acting.{reply-of}
use Rattle.view_events.specs.declared.recording.Recording.{Recording}
use Rattle.view_events.specs.inside.Recordings.{IsRecorded, group_of}
use Rattle.view_events.proofs.recording.RecordingPlayer.answer.Goals as goal

pub foretell-requires-clause-fed : goal.foretell-requires-clause-fed
foretell-requires-clause-fed c =
    let past = c.requires.can.1 in
    let is = c.requires.can.2.moved_to.1 in
    let tick = c.args.step.tick.0 in (
      Clock tick ∷ past,
      c.afresh.ensures.moved past tick is.at,
      subst (λ (g : Group). IsFed g (Clock tick ∷ past) c.args.self.now.feed) (sym c.afresh.ensures.group) is.fed,
    )

pub act-requires : goal.act-requires
act-requires c =
    let past = c.requires.can.1 in
    let is = c.requires.can.2.moved_to.1 in
    let tick = c.args.step.tick.0 in
    let fed = subst (λ (g : Group). IsFed g (Clock tick ∷ past) c.args.self.now.feed) (sym c.afresh.ensures.group) is.fed in
    let told = c.in_ok-unit.ensures (Clock tick ∷ past) (c.afresh.ensures.moved past tick is.at) in
    let d : PastAct = act_shown c.act-act.result in
    let act_is = c.act-act.ensures.act past is.at in
    let g = group_of c.args.self.now in
    let then : after g c.args.step past ≡ Acted d ∷ Clock tick ∷ past = after-acted g c.args.step past ∙ ap (λ (x : PastAct). Acted x ∷ Clock tick ∷ past) (sym act_is) in
    let at = subst (replays.IsAt c.act-act.new.self) then (c.act-act.ensures.at past is.at) in
    let same = c.afresh.ensures.group ∙ sym c.act-act.ensures.group ∙ sym c.afresh-2.ensures.group in
    let shown = act_is ∙ ap (λ (x : Group). past_act x c.args.step.cpu.0 c.args.step.act (Clock tick ∷ past)) (sym c.afresh.ensures.group) in
    record {
      acted = (
        Clock tick ∷ past,
        c.afresh-2.ensures.at (Acted d ∷ Clock tick ∷ past) at,
        subst (λ (x : Group). IsForetold x (record { act = d; before = Clock tick ∷ past }) c.in_ok-unit.unit) same
            (subst (λ (x : PastAct). IsForetold (ranker.group_of c.afresh.result.now) (record { act = x; before = Clock tick ∷ past }) c.in_ok-unit.unit) (sym shown) told),
        subst (λ (x : Group). IsFed x (Clock tick ∷ past) c.args.self.now.feed) same fed,
      );
    }

pub returns-clause-at : goal.returns-clause-at
returns-clause-at c = λ whole past answered.
    let is = answered.moved_to.1 in
    let step = c.args.step in
    let tick = step.tick.0 in
    let fed = subst (λ (g : Group). IsFed g (Clock tick ∷ past) c.args.self.now.feed) (sym c.afresh.ensures.group) is.fed in
    let told = c.in_ok-unit.ensures (Clock tick ∷ past) (c.afresh.ensures.moved past tick is.at) in
    let d : PastAct = act_shown c.act-act.result in
    let act_is = c.act-act.ensures.act past is.at in
    let g = group_of c.args.self.now in
    let then : after g step past ≡ Acted d ∷ Clock tick ∷ past = after-acted g step past ∙ ap (λ (x : PastAct). Acted x ∷ Clock tick ∷ past) (sym act_is) in
    let at = subst (replays.IsAt c.act-act.new.self) then (c.act-act.ensures.at past is.at) in
    let same = c.afresh.ensures.group ∙ sym c.act-act.ensures.group ∙ sym c.afresh-2.ensures.group in
    let shown = act_is ∙ ap (λ (x : Group). past_act x step.cpu.0 step.act (Clock tick ∷ past)) (sym c.afresh.ensures.group) in
    let acted = c.in_ok-act.ensures (Clock tick ∷ past) (c.afresh-2.ensures.at (Acted d ∷ Clock tick ∷ past) at)
    (subst (λ (x : Group). IsForetold x (record { act = d; before = Clock tick ∷ past }) c.in_ok-unit.unit) same
    (subst (λ (x : PastAct). IsForetold (ranker.group_of c.afresh.result.now) (record { act = x; before = Clock tick ∷ past }) c.in_ok-unit.unit) (sym shown) told))
    (subst (λ (x : Group). IsFed x (Clock tick ∷ past) c.args.self.now.feed) same fed) in
    let clock = c.now.ensures.at _ (c.act-act.ensures.at past is.at) ∙ ap now then in
    let kept = c.in_ok-feed.ensures.kept (Clock tick ∷ past) (kept-clock c.args.self.now.times tick past is.kept) clock in
    let made : Recording = record { replay = c.act-act.new.self; feed = c.act.new.self; times = c.feed.new.self } in (
      c.act-act.ensures.group ∙ answered.moved_to.0,
      subst (λ (x : Group). IsRecorded (after x step past) made) answered.moved_to.0 (record {
        at = c.act-act.ensures.at past is.at;
        fed = subst (λ (p : Past). IsFed (replays.group_of c.act-act.new.self) p c.act.new.self) (sym then) (subst (λ (x : Group). IsFed x (Acted d ∷ Clock tick ∷ past) c.act.new.self) c.afresh-2.ensures.group acted);
        kept = subst (KeepsTimes c.feed.new.self) (sym then) kept;
        tasks = c.in_ok-feed.ensures.count ∙ is.tasks ∙ sym (ap (λ (x : Group). length x.setup.tasks) c.act-act.ensures.group);
      }),
    )

pub returns-clause-reply : goal.returns-clause-reply
returns-clause-reply c = λ g past can.
    reply-of (group_of c.args.self.now) (act_shown c.act-act.result) c.args.step past (c.act-act.ensures.act past can.moved_to.1.at)
    ∙ ap (λ (x : Group). reply_to x c.args.step past) can.moved_to.0
