use Rattle.std.proofs.Common.{◌∙◌, ℕ, List, Some, map, sym, ap}
use Rattle.rt_task.specs.declared.Parts.{Parts}
use Rattle.event_lines.specs.Shown.{group_tracks_shown}
use Rattle.event_lines.specs.TrackEvents.{tracks_text}
use Rattle.event_lines.proofs.Told.{tracks_tell_events}
use Rattle.view_command.proofs.dispatch.text_of_tracks.Goals as goal

pub returns : goal.returns
returns c = λ hs told.
    ap (λ (xs : List ℕ). Some xs)
    (c.in_ok-text.ensures ∙ ap (λ (p : Parts). tracks_text p (map group_tracks_shown c.args.tracks.items)) c.parts.ensures.parts
    ∙ ap (tracks_text c.args.setup.now) told ∙ sym (tracks_tell_events c.args.setup.now hs))
