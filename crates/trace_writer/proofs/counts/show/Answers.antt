use Rattle.std.proofs.Common.{map, ap, ◌∙◌}
use Rattle.trace_tools.specs.BusCounters.{counters}
use Rattle.trace_tools.specs.Counters.{counter_after}
use Rattle.trace_tools.specs.declared.shown.Shown.{Shown}
use Rattle.trace_text.proofs.ShownLaws.{shown-is}
use Rattle.trace_writer.proofs.counts.show.Goals as goal

pub returns : goal.returns
returns g c =
    c.feed.ensures
    ∙ ap (λ (e : Shown). map (counter_after e) (counters g.T.TraceTool.tool c.args.bus.now))
    (shown-is c.args.engine.now c.args.group c.args.no c.args.entry.now c.ended.result c.shown_by.result c.requires c.ended.ensures c.shown_by.ensures)
