use Rattle.serde_json.specs.View.{view}
use Rattle.set_read.specs.Names.{names_seen}
use Rattle.set_read.proofs.TaskLaws.{plain_task}
use Rattle.set_read.proofs.plain_tasks.task.Goals as goal

pub returns : goal.returns
returns c =
    let (was, formed, is, shape) = c.in_ok-task.ensures in
    rw is
    (plain_task (names_seen c.args.names.now) c.args.number c.args.bytes.now c.in_ok-after.field-0.now c.in_ok-text.text.now
    c.in_ok-text.body.now
    c.in_ok-body.rest.now c.in_ok-rest.rest.now (view c.in_ok-value.value) c.in_ok-body.body.items was c.in_ok-after.ensures.lexed
    c.in_ok-text.ensures
    c.in_ok-value.ensures c.in_ok-body.ensures c.in_ok-rest.ensures.lexed formed (rw is at shape))
