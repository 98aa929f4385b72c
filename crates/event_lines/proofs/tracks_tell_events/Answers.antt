use Rattle.event_lines.proofs.Told.{tracks_tell_events}
use Rattle.event_lines.proofs.tracks_tell_events.Goals as goal

pub returns : goal.returns
returns c = tracks_tell_events
