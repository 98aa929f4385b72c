use Rattle.std.proofs.Common.{sym, ◌∙◌}
use Rattle.body_play.proofs.Rows.{looked-not, looked-past}
use Rattle.body_play.proofs.turns.Turns.awaits_look.Goals as goal

pub returns-in-Some : goal.returns-in-Some
returns-in-Some c = λ g past step qs at no.
    looked-not g past step qs c.args.self.now at c.args.cpu.0 c.in-Some.turn (sym c.row.ensures ∙ c.in-Some.is) (sym c.awaits_look.ensures ∙ no)

pub returns-in-None : goal.returns-in-None
returns-in-None c = λ g past step qs at no. looked-past g past step qs c.args.self.now at c.args.cpu.0 (sym c.row.ensures ∙ c.in-None.is)
