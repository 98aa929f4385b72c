use Rattle.std.proofs.Common.{◌≡◌, ℕ, List, true, sym, ap, ◌∙◌, subst}
use Rattle.rt_base.specs.TaskNos.{number_of_task, numbers}
use Rattle.rt_rules.specs.Numbers.{has}
use Rattle.rt_task.specs.declared.Parts.{Parts}
use Rattle.split_rules.specs.PartHistories.{past_of}
use Rattle.split_rules.specs.PartLinks.{linked}
use Rattle.split_rules.specs.Partitions.{part_group}
use Rattle.part_state.specs.Reads.{CanRead, link_in}
use Rattle.part_state.specs.Replies.{part_reply}
use Rattle.part_player.specs.Players.{IsBegun, PlayerOf, moved}
use Rattle.part_player.proofs.BeginLaws as begins
use Rattle.part_player.proofs.FinishLaws as laws
use Rattle.part_player.proofs.player.Player.begin.Goals as goal

pub linked-link-requires-clause-read : goal.linked-link-requires-clause-read
linked-link-requires-clause-read c t h =
    let k = c.self.invariant in
    let m = laws.has-moved _ _ _ _ _ _ _ _ _ k c.in_ok-step.field-0.now _ _ (ap (λ a. a.begun) c.self.view_is ∙ c.requires) c.as_slice.ensures.value (c.in_ok-step.ensures.lookup.0, c.in_ok-step.ensures.lookup.1) c.move_clock.ensures in
    subst (λ p. CanRead p c.move_clock.new.self t) (sym c.parts-parts.ensures.parts)
    (begins.can-read _ _ _ k.history c.in_ok-step.field-0.now m.step c.move_clock.new.self m.at t
    (subst (λ ts. has t ts ≡ true) (ap numbers c.as_slice-tasks.ensures.value ∙ k.own_are) h))

pub reply-reply-requires-clause-cpu : goal.reply-reply-requires-clause-cpu
reply-reply-requires-clause-cpu c =
    let k = c.self.invariant in
    let m = laws.has-moved _ _ _ _ _ _ _ _ _ k c.in_ok-step.field-0.now _ _ (ap (λ a. a.begun) c.self.view_is ∙ c.requires) c.as_slice.ensures.value (c.in_ok-step.ensures.lookup.0, c.in_ok-step.ensures.lookup.1) c.move_clock.ensures in
    begins.cpu-low _ _ _ k.history c.in_ok-step.field-0.now m.step c.move_clock.new.self m.at

pub reply-reply-requires-clause-runs : goal.reply-reply-requires-clause-runs
reply-reply-requires-clause-runs c =
    let k = c.self.invariant in
    let m = laws.has-moved _ _ _ _ _ _ _ _ _ k c.in_ok-step.field-0.now _ _ (ap (λ a. a.begun) c.self.view_is ∙ c.requires) c.as_slice.ensures.value (c.in_ok-step.ensures.lookup.0, c.in_ok-step.ensures.lookup.1) c.move_clock.ensures in
    begins.runs-task _ _ _ k.history c.in_ok-step.field-0.now m.step c.move_clock.new.self m.at

pub invariant_of-self : goal.invariant_of-self
invariant_of-self c =
    let k = c.self.invariant in
    let m = laws.has-moved _ _ _ _ _ _ _ _ _ k c.in_ok-step.field-0.now _ _ (ap (λ a. a.begun) c.self.view_is ∙ c.requires) c.as_slice.ensures.value (c.in_ok-step.ensures.lookup.0, c.in_ok-step.ensures.lookup.1) c.move_clock.ensures in
    laws.begun-kept _ _ _ _ _ _ _ _ _ k c.in_ok-step.field-0.now m.next c.move_clock.new.self m.at

pub returns-clause-begun : goal.returns-clause-begun
returns-clause-begun c =
    let i = c.self.inside in
    let k = c.self.invariant in
    let x = c.in_ok-step.field-0.now in
    let state = c.move_clock.new.self in
    let m = laws.has-moved _ _ _ _ _ _ _ _ _ k x _ _ (ap (λ a. a.begun) c.self.view_is ∙ c.requires) c.as_slice.ensures.value (c.in_ok-step.ensures.lookup.0, c.in_ok-step.ensures.lookup.1) c.move_clock.ensures in
    let own = ap numbers c.as_slice-tasks.ensures.value ∙ k.own_are in
    let link : number_of_task c.linked-link.result ≡ linked (part_group i.setup i.cpu.0) i.cpu.0 (moved x (past_of (part_group i.setup i.cpu.0) i.cpu.0 i.entries.items)) =
    c.linked-link.ensures
    ∙ ap (λ (p : Parts). link_in p i.ceilings state (numbers c.as_slice-tasks.result.now)) c.parts-parts.ensures.parts
    ∙ ap (λ (ts : List ℕ). link_in i.setup i.ceilings state ts) own
    ∙ begins.link-read _ _ _ k.history x m.step state m.at i.ceilings k.ceilings_are in
    let reply : c.reply-reply.result ≡ begins.reply i.setup i.cpu.0 i.entries.items k.history x m.step state m.at =
    c.reply-reply.ensures
    ∙ ap (λ (p : Parts). part_reply p state i.cpu.0 x.act (number_of_task c.linked-link.result)) c.parts-parts.ensures.parts
    ∙ ap (λ o. part_reply i.setup state i.cpu.0 x.act o) link in
    subst (λ (a : PlayerOf). IsBegun a (record { step = x; reply = c.reply-reply.result })) c.self.view_is
    (begins.begins _ _ _ k.history x m.step state m.at i.begun _ m.next _ reply)
