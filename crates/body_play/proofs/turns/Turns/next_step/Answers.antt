use Rattle.std.proofs.Common.{◌≡◌, ap, sym, subst, ◌∙◌}
use Rattle.rt_base.specs.declared.CpuNo.{CpuNo}
use Rattle.rt_model.specs.Situations.{situation, next_act}
use Rattle.body_play.specs.Turns.{row_of}
use Rattle.body_play.proofs.Rows.{step-made}
use Rattle.body_play.proofs.turns.Turns.next_step.Goals as goal

pub returns-clause-next : goal.returns-clause-next
returns-clause-next c = λ g past step at told there may own tick.
    let same = subst (λ (q : CpuNo). c.args.next ≡ next_act g (situation g q.0 past)) (sym own) told in
    let row = ap (λ (q : CpuNo). row_of c.args.self.now.rows q.0) own ∙ sym c.row.ensures ∙ c.in_ok-turn.was in
    step-made g past step c.args.self.now at c.args.next same c.in_ok-turn.turn row may _
    (λ no on. c.next_step.ensures.on step own (sym tick ∙ no) on)
    (λ far yes new. c.next_step.ensures.begins step far own (sym tick ∙ yes) new)
