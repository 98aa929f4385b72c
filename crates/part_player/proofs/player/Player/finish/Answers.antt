use Rattle.std.proofs.Common.{◌+◌, ◌++◌, ◌∷◌, [], false, sym, ap, ◌∙◌, subst}
use Rattle.group_jobs.specs.GroupJobs.{IsTaskOf}
use Rattle.split_counts.specs.Room.{ComesNext}
use Rattle.part_state.specs.States.{after_act}
use Rattle.rt_base.specs.TaskNos.{numbers}
use Rattle.part_player.specs.Kept.{IsKept}
use Rattle.part_player.specs.Players.{IsAnswered, entry_of, group_of, own_script, past_at}
use Rattle.part_player.proofs.BeginLaws as begins
use Rattle.part_player.proofs.FinishLaws as laws
use Rattle.part_player.proofs.player.Player.finish.Goals as goal

pub act-requires-clause-cpu : goal.act-requires-clause-cpu
act-requires-clause-cpu c =
    let k = c.self.invariant in
    let begun = ap (λ a. a.begun) c.self.view_is ∙ c.requires.begun in
    let next = subst (λ a. ComesNext (own_script a.setup a.cpu) a.cpu a.entries c.args.step) (sym c.self.view_is) c.requires.next in
    let answered = subst (λ a. IsAnswered (group_of a) a.cpu (past_at a) c.args.step c.args.reply) (sym c.self.view_is) c.requires.reply in
    begins.cpu-low _ _ _ k.history c.args.step (laws.step _ _ _ _ _ _ _ _ _ k c.args.step c.args.reply next answered) c.self.inside.state
    (laws.stands-begun _ _ _ _ _ _ _ _ _ k c.args.step next begun)

pub act-requires-clause-split : goal.act-requires-clause-split
act-requires-clause-split c =
    let k = c.self.invariant in
    let next = subst (λ a. ComesNext (own_script a.setup a.cpu) a.cpu a.entries c.args.step) (sym c.self.view_is) c.requires.next in
    let answered = subst (λ a. IsAnswered (group_of a) a.cpu (past_at a) c.args.step c.args.reply) (sym c.self.view_is) c.requires.reply in
    (laws.step _ _ _ _ _ _ _ _ _ k c.args.step c.args.reply next answered).split

pub act-requires-clause-comes : goal.act-requires-clause-comes
act-requires-clause-comes c =
    let k = c.self.invariant in
    let next = subst (λ a. ComesNext (own_script a.setup a.cpu) a.cpu a.entries c.args.step) (sym c.self.view_is) c.requires.next in
    let answered = subst (λ a. IsAnswered (group_of a) a.cpu (past_at a) c.args.step c.args.reply) (sym c.self.view_is) c.requires.reply in
    laws.reply-comes _ _ _ _ _ _ _ _ _ k c.args.step c.args.reply next answered

pub act-requires-clause-runs : goal.act-requires-clause-runs
act-requires-clause-runs c t h =
    let k = c.self.invariant in
    let begun = ap (λ a. a.begun) c.self.view_is ∙ c.requires.begun in
    let next = subst (λ a. ComesNext (own_script a.setup a.cpu) a.cpu a.entries c.args.step) (sym c.self.view_is) c.requires.next in
    let answered = subst (λ a. IsAnswered (group_of a) a.cpu (past_at a) c.args.step c.args.reply) (sym c.self.view_is) c.requires.reply in
    subst (λ ts. IsTaskOf c.self.inside.state.kept ts t) (sym (c.as_slice-tasks.ensures ∙ ap (λ p. p.tasks) c.parts-parts.ensures.parts))
    (begins.runs-read _ _ _ k.history c.args.step (laws.step _ _ _ _ _ _ _ _ _ k c.args.step c.args.reply next answered) c.self.inside.state
    (laws.stands-begun _ _ _ _ _ _ _ _ _ k c.args.step next begun) t h)

pub invariant_of-self : goal.invariant_of-self
invariant_of-self c =
    let k = c.self.invariant in
    let i = c.self.inside in
    let begun = ap (λ a. a.begun) c.self.view_is ∙ c.requires.begun in
    let next = subst (λ a. ComesNext (own_script a.setup a.cpu) a.cpu a.entries c.args.step) (sym c.self.view_is) c.requires.next in
    let answered = subst (λ a. IsAnswered (group_of a) a.cpu (past_at a) c.args.step c.args.reply) (sym c.self.view_is) c.requires.reply in
    let tasks = c.as_slice-tasks.ensures ∙ ap (λ p. p.tasks) c.parts-parts.ensures.parts in
    subst (λ es. IsKept i.setup i.cpu.0 es false i.script.items (i.played + 1) (numbers i.tasks.items) i.ceilings c.act.new.state) (sym c.push_reserved.ensures.items)
    (subst (λ s. IsKept i.setup i.cpu.0 (i.entries.items ++ entry_of c.args.step c.args.reply ∷ []) false i.script.items (i.played + 1) (numbers i.tasks.items) i.ceilings s)
    (sym (c.act.ensures ∙ ap (λ ts. after_act ts i.cpu.0 c.args.step.act c.args.reply i.state) tasks))
    (laws.finished _ _ _ _ _ _ _ _ _ k c.args.step c.args.reply next answered begun))
