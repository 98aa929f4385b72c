use Rattle.std.proofs.Common.{ap₂, sym, ◌∙◌}
use Rattle.serde_json.specs.View.{view}
use Rattle.set_read.specs.Document.{act_with}
use Rattle.set_read.specs.Names.{names_seen}
use Rattle.set_read.proofs.ActLaws.{is_count}
use Rattle.set_read.proofs.acts.act_with.Goals as goal

pub returns : goal.returns
returns c =
    let names = names_seen c.args.names.now in
    c.act_counted.ensures names ∙ ap₂ (act_with names) c.as_bytes-word.ensures.value (sym (is_count (view c.args.x.now) c.in_ok-n.n c.in_ok-n.ensures))
