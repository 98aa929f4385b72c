use Rattle.std.proofs.Common.{◌≡◌, ℕ, ◌+◌, ◌<◌, ◌≤◌, length, refl, sym, ap, ◌∙◌, subst, arith}
use Rattle.rt_base.specs.declared.TheConstants.{MOST_STEPS}
use Rattle.rt_task.specs.declared.Parts.{Parts}
use Rattle.rt_rules.specs.declared.history.Entry.{Entry}
use Rattle.rt_plays.specs.Groups.{GroupHistory, group_of, past, with_entry}
use Rattle.rt_model.specs.Histories.{reply_to}
use Rattle.rt_model.specs.Steps.{IsStepOf}
use Rattle.rt_plays.specs.Drives.{horizon}
use Rattle.rt_plays.specs.NextSteps.{step_at}
use Rattle.cpu_site.specs.declared.progress.Progress.{Progress}
use Rattle.cpu_site.specs.Playing.{IsFar, IsPlaying}
use Rattle.cpu_site.proofs.Advancing.{playing-few}
use Rattle.cpu_site.proofs.TurnTaking as taking
use Rattle.cpu_site.proofs.player.Player.next_of_turn.Goals as goal

-- the horizon that is read is that of the group's set
horizon-read : (read kept own : Parts) (count : ℕ) → count ≡ horizon read.drive → read ≡ kept → kept ≡ own → count ≡ horizon own.drive
horizon-read read kept own count is same kept_is = is ∙ ap (λ (p : Parts). horizon p.drive) (same ∙ kept_is)

pub returns-then-at-horizon_of-clause-outcome : goal.returns-then-at-horizon_of-clause-outcome
returns-then-at-horizon_of-clause-outcome c =
    let on = subst (λ (h : GroupHistory). IsPlaying h c.self.inside.setup c.self.inside.steps.items c.self.inside.positions.items c.self.inside.nexts.items) c.self.view_is c.self.invariant in
    let far = horizon-read _ _ _ _ c.horizon_of.ensures c.parts.ensures.parts on.setup_is in
    let over = taking.all-over c.args.self.now _ _ _ _ on c.args.cpu.0 c.requires.cpu c.requires.turns c.args.at.now c.requires.far (omega (arith, far, c.if-at-horizon_of.true)) in
    (over.0, over.1, refl, refl)

pub returns-then-at-horizon_of-clause-few : goal.returns-then-at-horizon_of-clause-few
returns-then-at-horizon_of-clause-few c = subst (λ (h : GroupHistory). length h.entries ≤ MOST_STEPS) c.self.view_is (playing-few _ _ _ _ _ c.self.invariant)

pub returns-in_default-clause-outcome : goal.returns-in_default-clause-outcome
returns-in_default-clause-outcome c =
    let on = subst (λ (h : GroupHistory). IsPlaying h c.self.inside.setup c.self.inside.steps.items c.self.inside.positions.items c.self.inside.nexts.items) c.self.view_is c.self.invariant in
    let far = horizon-read _ _ _ _ c.horizon_of.ensures c.parts.ensures.parts on.setup_is in
    let over = taking.one-over c.args.self.now _ _ _ _ on c.args.cpu.0 c.requires.cpu c.requires.turns c.args.at.now c.requires.far (omega (arith, far, c.if-at-horizon_of.false)) (sym c.act_after.ensures ∙ c.in_default.is) in
    (over.0, refl, refl)

pub returns-in_default-clause-far : goal.returns-in_default-clause-far
returns-in_default-clause-far c =
    let on = subst (λ (h : GroupHistory). IsPlaying h c.self.inside.setup c.self.inside.steps.items c.self.inside.positions.items c.self.inside.nexts.items) c.self.view_is c.self.invariant in
    let far = horizon-read _ _ _ _ c.horizon_of.ensures c.parts.ensures.parts on.setup_is in
    (taking.one-over c.args.self.now _ _ _ _ on c.args.cpu.0 c.requires.cpu c.requires.turns c.args.at.now c.requires.far (omega (arith, far, c.if-at-horizon_of.false)) (sym c.act_after.ensures ∙ c.in_default.is)).1

pub returns-in_default-clause-few : goal.returns-in_default-clause-few
returns-in_default-clause-few c = subst (λ (h : GroupHistory). length h.entries ≤ MOST_STEPS) c.self.view_is (playing-few _ _ _ _ _ c.self.invariant)

pub step-reply-requires-clause-room : goal.step-reply-requires-clause-room
step-reply-requires-clause-room c =
    let on = subst (λ (h : GroupHistory). IsPlaying h c.self.inside.setup c.self.inside.steps.items c.self.inside.positions.items c.self.inside.nexts.items) c.self.view_is c.self.invariant in
    let far = horizon-read _ _ _ _ c.horizon_of.ensures c.parts.ensures.parts on.setup_is in
    subst (λ (h : GroupHistory). 0 < h.spare) (sym c.self.view_is)
    (taking.has-room c.args.self.now _ _ _ _ on c.args.cpu.0 c.requires.cpu c.requires.turns c.args.at.now c.requires.far (omega (arith, far, c.if-at-horizon_of.false)) c.in-Some.act (sym c.act_after.ensures ∙ c.in-Some.is))

pub step-reply-requires-clause-step : goal.step-reply-requires-clause-step
step-reply-requires-clause-step c =
    let on = subst (λ (h : GroupHistory). IsPlaying h c.self.inside.setup c.self.inside.steps.items c.self.inside.positions.items c.self.inside.nexts.items) c.self.view_is c.self.invariant in
    let far = horizon-read _ _ _ _ c.horizon_of.ensures c.parts.ensures.parts on.setup_is in
    subst (λ (h : GroupHistory). IsStepOf (group_of h) (step_at c.args.cpu.0 c.args.at.now.turns c.in-Some.act)) (sym c.self.view_is)
    (taking.step-of c.args.self.now _ _ _ _ on c.args.cpu.0 c.requires.cpu c.requires.turns c.args.at.now c.requires.far (omega (arith, far, c.if-at-horizon_of.false)) c.in-Some.act (sym c.act_after.ensures ∙ c.in-Some.is))

pub invariant_of-self : goal.invariant_of-self
invariant_of-self c =
    let on = subst (λ (h : GroupHistory). IsPlaying h c.self.inside.setup c.self.inside.steps.items c.self.inside.positions.items c.self.inside.nexts.items) c.self.view_is c.self.invariant in
    let far = horizon-read _ _ _ _ c.horizon_of.ensures c.parts.ensures.parts on.setup_is in
    let e : Entry = record { step = step_at c.args.cpu.0 c.args.at.now.turns c.in-Some.act; reply = c.step-reply.result } in
    let reply = subst (λ (h : GroupHistory). c.step-reply.result ≡ reply_to (group_of h) e.step (past h)) c.self.view_is c.step-reply.ensures.reply in
    subst (λ (h : GroupHistory). IsPlaying h c.self.inside.setup c.self.inside.steps.items c.self.inside.positions.items c.self.inside.nexts.items) (sym (c.step-reply.ensures.entry ∙ ap (with_entry e) c.self.view_is))
    (taking.playing-on c.args.self.now _ _ _ _ on c.args.cpu.0 c.requires.cpu c.requires.turns c.args.at.now c.requires.far (omega (arith, far, c.if-at-horizon_of.false)) c.in-Some.act (sym c.act_after.ensures ∙ c.in-Some.is) e refl reply)

pub returns-clause-outcome : goal.returns-clause-outcome
returns-clause-outcome c =
    let on = subst (λ (h : GroupHistory). IsPlaying h c.self.inside.setup c.self.inside.steps.items c.self.inside.positions.items c.self.inside.nexts.items) c.self.view_is c.self.invariant in
    let far = horizon-read _ _ _ _ c.horizon_of.ensures c.parts.ensures.parts on.setup_is in
    let e : Entry = record { step = step_at c.args.cpu.0 c.args.at.now.turns c.in-Some.act; reply = c.step-reply.result } in
    let reply = subst (λ (h : GroupHistory). c.step-reply.result ≡ reply_to (group_of h) e.step (past h)) c.self.view_is c.step-reply.ensures.reply in (
      taking.next-entry c.args.self.now _ _ _ _ on c.args.cpu.0 c.requires.cpu c.requires.turns c.args.at.now c.requires.far (omega (arith, far, c.if-at-horizon_of.false)) c.in-Some.act (sym c.act_after.ensures ∙ c.in-Some.is) e refl reply,
      c.step-reply.ensures.entry ∙ ap (with_entry e) c.self.view_is,
      refl,
    )

pub returns-clause-far : goal.returns-clause-far
returns-clause-far c =
    let on = subst (λ (h : GroupHistory). IsPlaying h c.self.inside.setup c.self.inside.steps.items c.self.inside.positions.items c.self.inside.nexts.items) c.self.view_is c.self.invariant in
    let far = horizon-read _ _ _ _ c.horizon_of.ensures c.parts.ensures.parts on.setup_is in
    let e : Entry = record { step = step_at c.args.cpu.0 c.args.at.now.turns c.in-Some.act; reply = c.step-reply.result } in
    let reply = subst (λ (h : GroupHistory). c.step-reply.result ≡ reply_to (group_of h) e.step (past h)) c.self.view_is c.step-reply.ensures.reply in
    let at : Progress = record { turns = c.args.at.now.turns; steps = c.args.at.now.steps + 1 } in
    subst (λ (h : GroupHistory). IsFar (group_of h) c.args.cpu.0 h.entries at) (sym (c.step-reply.ensures.entry ∙ ap (with_entry e) c.self.view_is))
    (taking.far-on c.args.self.now _ _ _ _ on c.args.cpu.0 c.requires.cpu c.requires.turns c.args.at.now c.requires.far (omega (arith, far, c.if-at-horizon_of.false)) c.in-Some.act (sym c.act_after.ensures ∙ c.in-Some.is) e refl reply)

pub returns-clause-begun : goal.returns-clause-begun
returns-clause-begun c = (invariant_of-self c).begun

pub returns-clause-few : goal.returns-clause-few
returns-clause-few c = playing-few _ _ _ _ _ (invariant_of-self c)
