use Rattle.std.proofs.Common.{◌≡◌, true}
use Rattle.serde_json.specs.View.{view}
use Rattle.set_explain.proofs.CauseLaws.{value-read, value-unread}
use Rattle.set_explain.proofs.cause.cause_of.Goals as goal

pub rule_of-requires : goal.rule_of-requires
rule_of-requires c = value-read c.args.bytes.now (view c.in-Ok.value) c.in-Ok.ensures.ok.0 c.in-Ok.ensures.ok.1

pub returns : goal.returns
returns c =
    value-unread c.args.bytes.now
    (c.in-Err.ensures.err (λ m. let t : c.is_memory.result ≡ true = c.is_memory.ensures.1 m in let f = c.if-is_memory.false in cc))
