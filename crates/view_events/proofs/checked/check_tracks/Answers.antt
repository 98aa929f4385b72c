use Rattle.std.proofs.Common.{List, sym, subst}
use Rattle.event_lines.specs.declared.tracks.GroupTracks.{GroupTracks}
use Rattle.view_events.specs.TextTracks.{HasTracks}
use Rattle.view_events.proofs.TextTracks.{kept-tracks}
use Rattle.view_events.proofs.checked.check_tracks.Goals as goal

pub returns-clause-tracks : goal.returns-clause-tracks
returns-clause-tracks g c = λ tools opened.
    let h = c.args.head.now in
    let verdict = c.in_ok-checked.checked.verdict in
    subst (λ (tracks : List GroupTracks). HasTracks tools h.version h.setup c.args.bytes.now tracks verdict) (sym c.tracks.ensures)
    (kept-tracks tools h.version h.setup c.args.bytes.now c.check_with.new.keeper.tracks.items verdict (c.in_ok-checked.ensures.kept tools opened))
