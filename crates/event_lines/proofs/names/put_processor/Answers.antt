use Rattle.std.proofs.Common.{◌∙◌, ◌+◌, ◌++◌, ap, codes, decimal}
use Rattle.std.proofs.lemmas.Result.{on_ok_weaker}
use Rattle.event_lines.proofs.Chains.{five_put}
use Rattle.event_lines.proofs.Pieces.{thread-put}
use Rattle.event_lines.proofs.names.put_processor.Goals as goal

pub returns : goal.returns
returns c =
    on_ok_weaker c.put-2.result (λ last.
    five_put c.args.text.now.items _ _ _ _ _ _ _ _ _ _ c.in_ok-put_on_thread.ensures c.in_ok-open_named.ensures c.in_ok-put.ensures c.in_ok-put_number.ensures last
    ∙ ap (λ xs. c.args.text.now.items ++ xs) (thread-put c.args.process (c.args.cpu + 1) (codes "processor " ++ decimal c.args.cpu))) c.put-2.ensures
