use Rattle.std.proofs.Common.{◌∙◌, ◌++◌, ap}
use Rattle.std.proofs.lemmas.Result.{on_ok_weaker}
use Rattle.event_lines.proofs.Chains.{four_put}
use Rattle.event_lines.proofs.Pieces.{process-put}
use Rattle.event_lines.proofs.names.put_process.Goals as goal

pub returns : goal.returns
returns c =
    on_ok_weaker c.put.result (λ last.
    four_put c.args.text.now.items _ _ _ _ _ _ _ _ c.in_ok-put_begun.ensures c.in_ok-open_named.ensures c.in_ok-put_group_name.ensures last
    ∙ ap (λ xs. c.args.text.now.items ++ xs) (process-put c.args.process c.args.group.0 c.args.what.now)) c.put.ensures
