use Rattle.event_laws.proofs.Sets.{events_are_read}
use Rattle.event_laws.proofs.events_are_read.Goals as goal

pub returns : goal.returns
returns c = events_are_read
