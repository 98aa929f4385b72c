use Rattle.std.proofs.Common.{◌⊎◌, ◌∙◌, sym, ap, subst}
use Rattle.body_play.specs.Turn.{Begins, GoesOn, IsTaken}
use Rattle.body_play.specs.Turns.{Turns}
use Rattle.body_play.proofs.Rows.{has-taken, not-next}
use Rattle.body_play.proofs.turns.Turns.take.Goals as goal

pub returns-in-Some-after-clause-taken : goal.returns-in-Some-after-clause-taken
returns-in-Some-after-clause-taken c = λ g past at told yes.
    has-taken g past c.args.step c.args.self.now at c.args.next told c.in-Some.turn c.in-Some-after.turn (sym c.row.ensures ∙ c.in-Some.is)
    (subst (λ n. IsTaken c.in-Some.turn c.args.next n c.args.step c.in-Some-after.turn) (ap (λ (v : Turns). v.horizon) c.self.view_is) c.in-Some-after.ensures) c.put.new.self c.put.ensures

pub returns-in-None-clause-refused : goal.returns-in-None-clause-refused
returns-in-None-clause-refused c = λ g past at told no there.
    not-next g past c.args.step c.args.self.now at c.args.next told c.in-Some.turn (sym c.row.ensures ∙ c.in-Some.is)
    (subst (λ n. (GoesOn c.in-Some.turn c.args.next c.args.step ⊎ Begins c.in-Some.turn n c.args.step) → ⊥) (ap (λ (v : Turns). v.horizon) c.self.view_is) c.in-None.ensures)
