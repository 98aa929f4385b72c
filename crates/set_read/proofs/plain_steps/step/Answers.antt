use Rattle.set_read.specs.Names.{names_seen}
use Rattle.set_read.proofs.PlainLaws.{plain_step}
use Rattle.set_read.proofs.plain_steps.step.Goals as goal

pub returns-clause-says : goal.returns-clause-says
returns-clause-says c =
    plain_step
    (names_seen c.args.names.now) c.args.bytes.now c.in_ok-after.field-0.now c.in_ok-cpu.rest.now c.in_ok-after-2.field-0.now c.in_ok-tick.rest.now
    c.in_ok-after-3.field-0.now c.in_ok-act.rest.now c.in_ok-cpu.cpu c.in_ok-tick.tick c.in_ok-act.act c.in_ok-after.ensures.lexed
    (c.in_ok-cpu.ensures.lexed c.in_ok-after-2.ensures.ends) c.in_ok-after-2.ensures.lexed
    (c.in_ok-tick.ensures.lexed c.in_ok-after-3.ensures.ends)
    c.in_ok-after-3.ensures.lexed c.in_ok-act.ensures.says
