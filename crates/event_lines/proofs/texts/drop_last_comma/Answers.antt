use Rattle.std.proofs.Common.{codes}
use Rattle.std.proofs.lemmas.Result.{on_ok_weaker}
use Rattle.event_lines.specs.WholeText.{whole_text}
use Rattle.event_lines.proofs.Chains.{last_put}
use Rattle.event_lines.proofs.Commas.{comma-dropped}
use Rattle.event_lines.proofs.texts.drop_last_comma.Goals as goal

pub returns : goal.returns
returns c =
    on_ok_weaker c.put.result (λ last events is.
    let start = codes "{\"displayTimeUnit\":\"ms\",\"traceEvents\":" in
    let cut = c.text.inside in
    comma-dropped start events c.pop-line_feed.result c.args.text.now c.pop-line_feed.new.self c.drop_comma.new.text _ is
    c.pop-line_feed.ensures c.in_ok-drop_comma.ensures
    (last_put (whole_text cut.whole.items) cut.last.items c.put.new.text.items c.drop_comma.new.text _ c.text.view_is last)) c.put.ensures
