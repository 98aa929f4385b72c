use Rattle.body_play.proofs.ActLaws.{next_of-some}
use Rattle.body_play.proofs.act_of_job.Goals as goal

pub returns-in-Some : goal.returns-in-Some
returns-in-Some c = λ g e. next_of-some g c.args.s.now c.args.tasks.now c.in-Some.runs c.operation_at.result c.act_of.result e c.in-Some.is c.operation_at.ensures (c.act_of.ensures g)
