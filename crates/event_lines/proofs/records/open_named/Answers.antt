use Rattle.std.proofs.lemmas.Result.{on_ok_weaker}
use Rattle.event_lines.proofs.Chains.{three_put}
use Rattle.event_lines.proofs.records.open_named.Goals as goal

pub returns : goal.returns
returns c = on_ok_weaker c.put-3.result (three_put c.args.text.now.items _ _ _ _ _ _ c.in_ok-put.ensures c.in_ok-put-2.ensures) c.put-3.ensures
