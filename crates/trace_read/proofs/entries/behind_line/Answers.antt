use Rattle.trace_read.proofs.ReadLaws.{behind-feed, behind-one_line}
use Rattle.trace_read.proofs.entries.behind_line.Goals as goal

pub returns-in-Some : goal.returns-in-Some
returns-in-Some c = behind-feed c.args.text.now c.in-Some.field-0-0.now c.in-Some.rest.now c.in-Some.ensures

pub returns-in-None : goal.returns-in-None
returns-in-None c = behind-one_line c.args.text.now c.in-None.ensures
