use Rattle.std.proofs.Common.{rules, inr, refl}
use Rattle.sim_commands.proofs.SimAnswerLaws.{sim-read, sim-unread}
use Rattle.sim_commands.proofs.play_set.play_set.Goals as goal

pub returns-in-Err-clause-answers : goal.returns-in-Err-clause-answers
returns-in-Err-clause-answers g c = sim-unread _ _ _ c.in-Err.status c.in-Err.ensures.ends refl

pub returns-in-Ok-write_played-clause-answers : goal.returns-in-Ok-write_played-clause-answers
returns-in-Ok-write_played-clause-answers g c =
    sim-read g.T.TraceTool.tool c.args.tools.items _ _ _ c.in-Ok.setup _ c.in-Ok.ensures.ok (c.in-Ok.ensures.ends.not_too_long (λ is. cc)) c.in-Ok-open.ensures c.in-Ok-write_played.ensures.lines.0

pub returns-in-Err-Fault-clause-answers : goal.returns-in-Err-Fault-clause-answers
returns-in-Err-Fault-clause-answers g c =
    let came = rw c.in-Err-Fault.field-0-is at c.in-Err-Fault.ensures.lines in
    sim-read g.T.TraceTool.tool c.args.tools.items _ _ _ c.in-Ok.setup _ c.in-Ok.ensures.ok (c.in-Ok.ensures.ends.not_too_long (λ is. cc)) c.in-Ok-open.ensures (came.0, came.2)

pub returns-clause-answers : goal.returns-clause-answers
returns-clause-answers g c =
    let came = rw c.in-Err-NoMemory.field-0-is at c.in-Err-NoMemory.ensures.lines in
    sim-read g.T.TraceTool.tool c.args.tools.items _ _ _ c.in-Ok.setup _ c.in-Ok.ensures.ok (c.in-Ok.ensures.ends.not_too_long (λ is. cc)) c.in-Ok-open.ensures (inr came.0)

pub returns-in-Ok-write_played-clause-faults : goal.returns-in-Ok-write_played-clause-faults
returns-in-Ok-write_played-clause-faults g c = search (rules, c.in-Ok-write_played.ensures.lines.1)

pub returns-in-Err-Fault-clause-faults : goal.returns-in-Err-Fault-clause-faults
returns-in-Err-Fault-clause-faults g c = let came = rw c.in-Err-Fault.field-0-is at c.in-Err-Fault.ensures.lines in search (rules, came.2)

pub returns-clause-faults : goal.returns-clause-faults
returns-clause-faults g c = let came = rw c.in-Err-NoMemory.field-0-is at c.in-Err-NoMemory.ensures.lines in search (rules, came.1)
