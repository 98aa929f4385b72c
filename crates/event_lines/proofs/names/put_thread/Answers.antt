use Rattle.std.proofs.Common.{◌∙◌, ◌++◌, ap}
use Rattle.std.proofs.lemmas.Result.{on_ok_weaker}
use Rattle.event_lines.proofs.Chains.{four_put}
use Rattle.event_lines.proofs.Pieces.{thread-put}
use Rattle.event_lines.proofs.names.put_thread.Goals as goal

pub returns : goal.returns
returns c =
    on_ok_weaker c.put-2.result (λ last.
    four_put c.args.text.now.items _ _ _ _ _ _ _ _ c.in_ok-put_on_thread.ensures c.in_ok-open_named.ensures c.in_ok-put.ensures last
    ∙ ap (λ xs. c.args.text.now.items ++ xs) (thread-put c.args.process c.args.thread c.args.name.now)) c.put-2.ensures
