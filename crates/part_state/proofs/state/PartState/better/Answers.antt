use Rattle.std.proofs.Common.{◌≡◌, Some, sym, ◌∙◌, subst}
use Rattle.part_state.specs.inside.Candidates.{ranked, ranked_best}
use Rattle.part_state.specs.Reads.{better_with}
use Rattle.part_state.proofs.Linking.{goes-first, no-better, the-first}
use Rattle.part_state.proofs.state.PartState.better.Goals as goal

pub returns-then-not-may_run : goal.returns-then-not-may_run
returns-then-not-may_run c =
    no-better c.args.parts.now c.args.ceilings.now c.args.self.now c.args.task.0 (ranked_best c.args.best)
    (sym (c.may_run.ensures c.args.ceilings.now) ∙ c.if-not-may_run.true)

pub returns-in_default : goal.returns-in_default
returns-in_default c =
    subst (λ o. Some (ranked (record { key = c.key-key.result; task = c.args.task }))
    ≡ better_with c.args.parts.now c.args.ceilings.now c.args.self.now c.args.task.0 (ranked_best o)) (sym c.in-Some.is)
    (goes-first c.args.parts.now c.args.ceilings.now c.args.self.now c.args.task.0
    (sym (c.may_run.ensures c.args.ceilings.now) ∙ c.if-not-may_run.false) c.key-key.result c.key-key.ensures
    (ranked c.in-Some.best) (sym c.goes_ahead.ensures ∙ c.if-not-goes_ahead.false))

pub returns-in_default-2 : goal.returns-in_default-2
returns-in_default-2 c =
    subst (λ o. Some (ranked (record { key = c.key-key.result; task = c.args.task }))
    ≡ better_with c.args.parts.now c.args.ceilings.now c.args.self.now c.args.task.0 (ranked_best o)) (sym c.in_default.is)
    (the-first c.args.parts.now c.args.ceilings.now c.args.self.now c.args.task.0
    (sym (c.may_run.ensures c.args.ceilings.now) ∙ c.if-not-may_run.false) c.key-key.result c.key-key.ensures)
