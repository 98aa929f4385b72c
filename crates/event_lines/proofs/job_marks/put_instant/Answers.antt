use Rattle.std.proofs.Common.{◌∙◌, ◌++◌, ap}
use Rattle.std.proofs.lemmas.Result.{on_ok_weaker}
use Rattle.event_lines.proofs.Chains.{five_put}
use Rattle.event_lines.proofs.Pieces.{instant-put}
use Rattle.event_lines.proofs.job_marks.put_instant.Goals as goal

pub returns : goal.returns
returns c =
    on_ok_weaker c.put-3.result (λ last name words.
    let text = c.args.text.now.items in
    five_put text _ _ _ _ _ _ _ _ _ _ c.in_ok-open_instant.ensures c.in_ok-put_microseconds.ensures (c.in_ok-put.ensures ∙ ap (λ xs. c.put_microseconds.new.text.items ++ xs) words) c.in_ok-put-2.ensures last
    ∙ ap (λ xs. text ++ xs) (instant-put c.args.thread.now c.args.tick name c.args.job.now)) c.put-3.ensures
