use Rattle.std.proofs.Common.{◌≡◌, List, map, sym, ◌∙◌, subst}
use Rattle.std.proofs.lemmas.Simd.{map-map}
use Rattle.trace_tools.specs.BusCounters.{counters}
use Rattle.trace_tools.specs.Counters.{counter_of}
use Rattle.trace_tools.specs.Tools.{Tool}
use Rattle.view_command.specs.inside.Viewing.{IsViewed}
use Rattle.view_command.specs.declared.views.View.{View}
use Rattle.view_command.proofs.dispatch.text_in.Goals as goal

pub returns-in-Events : goal.returns-in-Events
returns-in-Events g c =
    let h = c.args.head.now in
    let tools : List Tool = map g.T.TraceTool.tool c.args.tools.items in
    let opened : counters g.T.TraceTool.tool c.in-Ok.bus ≡ map counter_of tools = c.in-Ok.ensures ∙ sym (map-map counter_of g.T.TraceTool.tool c.args.tools.items) in
    subst (λ (w : View). IsViewed tools h.version h.setup c.args.bytes.items w c.recorded.result) (sym c.in-Events.is) (c.recorded.ensures tools opened)

pub replayed-requires-clause-opened : goal.replayed-requires-clause-opened
replayed-requires-clause-opened g c =
    (map g.T.TraceTool.tool c.args.tools.items, c.in-Ok.ensures ∙ sym (map-map counter_of g.T.TraceTool.tool c.args.tools.items))

pub returns : goal.returns
returns g c =
    let tools : List Tool = map g.T.TraceTool.tool c.args.tools.items in
    let opened : counters g.T.TraceTool.tool c.in-Ok.bus ≡ map counter_of tools = c.in-Ok.ensures ∙ sym (map-map counter_of g.T.TraceTool.tool c.args.tools.items) in
    c.replayed.ensures tools opened
