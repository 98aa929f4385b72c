use Rattle.std.proofs.Common.{◌≡◌, List, map, sym, ◌∙◌}
use Rattle.std.proofs.lemmas.Simd.{map-map}
use Rattle.trace_tools.specs.BusCounters.{counters}
use Rattle.trace_tools.specs.Counters.{counter_of}
use Rattle.trace_tools.specs.Tools.{Tool}
use Rattle.explain_command.proofs.TraceLaws.{explains-valid, explains-wrong, says-read}
use Rattle.explain_command.proofs.trace.judged.Goals as goal

pub returns-in-Ok-Valid : goal.returns-in-Ok-Valid
returns-in-Ok-Valid g c =
    let t = c.args.head.now in
    let tools : List Tool = map g.T.TraceTool.tool c.args.tools.items in
    let opened : counters g.T.TraceTool.tool c.in-Ok.bus ≡ map counter_of tools = c.in-Ok.ensures ∙ sym (map-map counter_of g.T.TraceTool.tool c.args.tools.items) in
    let valid = rw c.in-Ok-Valid.field-0-is at (c.in-Ok-Valid.ensures.verdict tools opened) in
    explains-valid tools t.version t.setup c.args.bytes.now c.in-Ok-Valid.field-0-0 c.fine.result (says-read c.args.bytes.now t c.requires) valid c.fine.ensures

pub returns-in-Ok-Invalid : goal.returns-in-Ok-Invalid
returns-in-Ok-Invalid g c =
    let t = c.args.head.now in
    let tools : List Tool = map g.T.TraceTool.tool c.args.tools.items in
    let opened : counters g.T.TraceTool.tool c.in-Ok.bus ≡ map counter_of tools = c.in-Ok.ensures ∙ sym (map-map counter_of g.T.TraceTool.tool c.args.tools.items) in
    let wrong = rw c.in-Ok-Invalid.field-0-is at (c.in-Ok-Invalid.ensures.verdict tools opened) in
    explains-wrong tools t.version t.setup c.args.bytes.now c.in-Ok-Invalid.line c.wrong.result (says-read c.args.bytes.now t c.requires) wrong c.wrong.ensures
