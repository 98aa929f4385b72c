use Rattle.std.proofs.Common.{◌∙◌, ◌++◌, ap}
use Rattle.std.proofs.lemmas.Result.{on_ok_weaker}
use Rattle.event_lines.proofs.Chains.{five_put}
use Rattle.event_lines.proofs.Pieces.{count-put}
use Rattle.event_lines.proofs.budgets.put_count.Goals as goal

pub returns : goal.returns
returns c =
    on_ok_weaker c.put-3.result (λ last.
    five_put c.args.text.now.items _ _ _ _ _ _ _ _ _ _ c.in_ok-open_count.ensures c.in_ok-put.ensures c.in_ok-put-2.ensures c.in_ok-put_number.ensures last
    ∙ ap (λ xs. c.args.text.now.items ++ xs) (count-put c.args.process c.args.tick c.args.name.now c.args.left)) c.put-3.ensures
