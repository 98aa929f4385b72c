use Rattle.std.proofs.Common.{◌∙◌, ◌++◌, ap}
use Rattle.std.proofs.lemmas.Result.{on_ok_weaker}
use Rattle.rt_base.specs.TaskNos.{number_of_task}
use Rattle.event_texts.specs.CpuSpans.{link_argument}
use Rattle.event_lines.specs.TrackEvents.{some_group}
use Rattle.event_lines.proofs.Chains.{four_put}
use Rattle.event_lines.proofs.Pieces.{span-put}
use Rattle.event_lines.proofs.cpu_spans.put_busy.Goals as goal

pub returns : goal.returns
returns c =
    on_ok_weaker c.put_link.result (λ last kind words.
    let span = c.args.span in
    let text = c.args.text.now.items in
    four_put text _ _ _ _ _ _ _ _ c.in_ok-open_span.ensures (c.in_ok-put.ensures ∙ ap (λ xs. c.open_span.new.text.items ++ xs) words) c.in_ok-put-2.ensures last
    ∙ ap (λ xs. text ++ xs)
    (span-put c.args.thread.now span.from span.to kind c.args.name.now (link_argument (some_group c.args.set.now) (number_of_task span.cell.link)))) c.put_link.ensures
