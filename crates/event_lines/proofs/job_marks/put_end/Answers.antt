use Rattle.std.proofs.Common.{◌∙◌, ℕ, ◌+◌, ◌++◌, codes, refl, sym, ap}
use Rattle.std.proofs.lemmas.Result.{on_ok_weaker}
use Rattle.std.specs.Prelude.{Option}
use Rattle.event_texts.specs.Records.{instant_event}
use Rattle.event_lines.specs.inside.Commas.{with_comma, with_commas}
use Rattle.event_lines.specs.TrackEvents.{end_events}
use Rattle.event_lines.proofs.Pieces.{alone}
use Rattle.event_lines.proofs.job_marks.put_end.Goals as goal

pub returns : goal.returns
unfolding end_events
returns c =
    on_ok_weaker c.put_instant.result (λ last.
    let text = c.args.text.now.items in
    alone text _ _ (last (codes "end") refl ∙ ap (λ tick. text ++ with_comma (instant_event c.args.thread.now.process c.args.thread.now.number (tick + 1) (codes "end") c.args.job.now)) c.from.ensures)
    ∙ ap (λ (ended : Option ℕ). text ++ with_commas (end_events c.args.thread.now.process c.args.thread.now.number c.args.job.now ended)) (sym c.in-Some.is)) c.put_instant.ensures
