use Rattle.trace_check.proofs.Accepting.{on-course}
use Rattle.trace_check.proofs.follow.Follow.is_over.Goals as goal

pub is_over-requires : goal.is_over-requires
is_over-requires g c = (c.requires.0, on-course g.P.Player.at g.P.Player.spare c.requires.0 c.args.setup.now c.args.self.now c.requires.1)

pub returns-clause-over : goal.returns-clause-over
returns-clause-over g c = λ at fw t. c.is_over.ensures.over at (on-course g.P.Player.at g.P.Player.spare at c.args.setup.now c.args.self.now fw) t

pub returns-clause-not_over : goal.returns-clause-not_over
returns-clause-not_over g c = λ at fw t. c.is_over.ensures.not_over at (on-course g.P.Player.at g.P.Player.spare at c.args.setup.now c.args.self.now fw) t
