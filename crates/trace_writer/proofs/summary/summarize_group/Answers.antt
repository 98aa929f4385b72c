use Rattle.std.proofs.Common.{List, length, ap, ◌∙◌, arith}
use Rattle.rt_rules.specs.declared.history.Entry.{Entry}
use Rattle.rt_plays.specs.Plays.{group_with}
use Rattle.rt_plays.specs.Groups.{GroupHistory}
use Rattle.set_plays.specs.GroupSteps.{group_told}
use Rattle.trace_tools.specs.declared.shown.Shown.{Shown}
use Rattle.trace_tools.specs.BusCounters.{counters}
use Rattle.trace_tools.specs.Counters.{counters_after}
use Rattle.trace_writer.proofs.GroupParts.{ahead-opened, few-opened, few-told, of-opened, opening, room-opened, shown-opened, tallies-played}
use Rattle.trace_writer.proofs.SummaryLaws.{requests-few-seen, summary-is}
use Rattle.trace_writer.proofs.summary.summarize_group.Goals as goal

pub open-requires-clause-room : goal.open-requires-clause-room
open-requires-clause-room g c = omega (arith, c.in_ok-left.ensures.few, c.room.ensures)

pub take_steps-entries-requires-clause-setup : goal.take_steps-entries-requires-clause-setup
take_steps-entries-requires-clause-setup g c = ap (λ (x : GroupHistory). x.setup) c.in_ok-engine.ensures

pub take_steps-entries-requires-clause-number : goal.take_steps-entries-requires-clause-number
take_steps-entries-requires-clause-number g c = ap (λ (x : GroupHistory). x.group) c.in_ok-engine.ensures

pub take_steps-entries-requires-clause-of : goal.take_steps-entries-requires-clause-of
take_steps-entries-requires-clause-of g c = of-opened (opening c.args.steps c.in_ok-engine.ensures c.room.ensures c.in_ok-left.ensures)

pub take_steps-entries-requires-clause-room : goal.take_steps-entries-requires-clause-room
take_steps-entries-requires-clause-room g c = room-opened (opening c.args.steps c.in_ok-engine.ensures c.room.ensures c.in_ok-left.ensures)

pub take_steps-entries-requires-clause-few : goal.take_steps-entries-requires-clause-few
take_steps-entries-requires-clause-few g c = few-opened (opening c.args.steps c.in_ok-engine.ensures c.room.ensures c.in_ok-left.ensures)

pub overflow_cast-result : goal.overflow_cast-result
overflow_cast-result g c =
    let es : List Entry = group_told c.args.setup.now c.args.number.0 c.args.steps in
    let o = opening c.args.steps c.in_ok-engine.ensures c.room.ensures c.in_ok-left.ensures in
    let told = tallies-played o c.take_steps-entries.new.engine c.requests-requests.result.now c.take_steps-entries.ensures.played c.requests-requests.ensures in
    omega (arith, requests-few-seen (group_with c.args.setup.now c.args.number.0) es c.requests-requests.result.now (few-told o) told)

pub returns-clause-summary : goal.returns-clause-summary
returns-clause-summary g c =
    let es : List Entry = group_told c.args.setup.now c.args.number.0 c.args.steps in
    let o = opening c.args.steps c.in_ok-engine.ensures c.room.ensures c.in_ok-left.ensures in
    let told = tallies-played o c.take_steps-entries.new.engine c.requests-requests.result.now c.take_steps-entries.ensures.played c.requests-requests.ensures in
    summary-is (group_with c.args.setup.now c.args.number.0) es c.requests-requests.result.now c.take_steps-entries.result c.most_ends.result (c.take_steps-entries.ensures.count ∙ ap length (ahead-opened o)) told c.most_ends.ensures

pub returns-clause-entries : goal.returns-clause-entries
returns-clause-entries g c =
    let o = opening c.args.steps c.in_ok-engine.ensures c.room.ensures c.in_ok-left.ensures in
    omega (arith, c.take_steps-entries.ensures.count, ap length (ahead-opened o), few-told o)

pub returns-clause-requests : goal.returns-clause-requests
returns-clause-requests g c =
    let es : List Entry = group_told c.args.setup.now c.args.number.0 c.args.steps in
    let o = opening c.args.steps c.in_ok-engine.ensures c.room.ensures c.in_ok-left.ensures in
    let told = tallies-played o c.take_steps-entries.new.engine c.requests-requests.result.now c.take_steps-entries.ensures.played c.requests-requests.ensures in
    requests-few-seen (group_with c.args.setup.now c.args.number.0) es c.requests-requests.result.now (few-told o) told

pub returns-clause-shown : goal.returns-clause-shown
returns-clause-shown g c =
    let shown = shown-opened (opening c.args.steps c.in_ok-engine.ensures c.room.ensures c.in_ok-left.ensures) in
    c.take_steps-entries.ensures.shown ∙ ap (λ (ss : List Shown). counters_after ss (counters g.T.TraceTool.tool c.args.bus.now)) shown
