use Rattle.std.proofs.Common.{◌∙◌, ◌+◌, ◌++◌, sym, ap}
use Rattle.std.proofs.lemmas.Result.{on_ok_weaker}
use Rattle.std.specs.Prelude.{Option, option_map}
use Rattle.event_texts.specs.JobInstants.{deadline_name}
use Rattle.event_texts.specs.Records.{instant_event}
use Rattle.event_lines.specs.inside.Commas.{with_comma, with_commas}
use Rattle.event_lines.specs.Shown.{due_shown}
use Rattle.event_lines.specs.TrackEvents.{deadline_events}
use Rattle.event_lines.specs.declared.tracks.Due.{Due}
use Rattle.event_lines.proofs.Pieces.{alone}
use Rattle.event_lines.proofs.job_marks.put_deadline.Goals as goal

pub returns : goal.returns
unfolding deadline_events
returns c =
    on_ok_weaker c.put_instant.result (λ last.
    let text = c.args.text.now.items in
    let name = deadline_name c.in-Some.due.missed in
    alone text _ _ (last name c.deadline_words.ensures ∙ ap (λ tick. text ++ with_comma (instant_event c.args.thread.now.process c.args.thread.now.number (tick + 1) name c.args.job.now)) c.from.ensures)
    ∙ ap (λ (o : Option Due). text ++ with_commas (deadline_events c.args.thread.now.process c.args.thread.now.number c.args.job.now (option_map due_shown o))) (sym c.in-Some.is)) c.put_instant.ensures
