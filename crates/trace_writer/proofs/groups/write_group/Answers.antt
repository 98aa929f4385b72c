use Rattle.std.proofs.Common.{List, ap, ◌∙◌, refl, arith}
use Rattle.std.proofs.lemmas.Result.{IfOk-from_err}
use Rattle.rt_rules.specs.declared.history.Entry.{Entry}
use Rattle.rt_plays.specs.Plays.{group_with}
use Rattle.rt_plays.specs.Groups.{GroupHistory}
use Rattle.set_plays.specs.GroupSteps.{group_told}
use Rattle.trace_lines.specs.Known.{known_in}
use Rattle.trace_tools.specs.declared.shown.Shown.{Shown}
use Rattle.trace_tools.specs.BusCounters.{counters}
use Rattle.trace_tools.specs.Counters.{counters_after}
use Rattle.trace_writer.proofs.CameLaws.{came-third, stopped-before, stopped-first, stopped-second}
use Rattle.trace_writer.proofs.GroupParts.{blocks-played, few-opened, group-parts, line-opened, lines-opened, of-opened, opening, room-opened, shown-opened}
use Rattle.trace_writer.proofs.Replays.{on_ok}
use Rattle.trace_writer.proofs.groups.write_group.Goals as goal

pub open-requires-clause-room : goal.open-requires-clause-room
open-requires-clause-room g c = omega (arith, c.in_ok-left.ensures.few, c.room.ensures)

pub write_entries-requires-clause-setup : goal.write_entries-requires-clause-setup
write_entries-requires-clause-setup g c = ap (λ (x : GroupHistory). x.setup) c.in_ok-replay.ensures.opened

pub write_entries-requires-clause-number : goal.write_entries-requires-clause-number
write_entries-requires-clause-number g c = ap (λ (x : GroupHistory). x.group) c.in_ok-replay.ensures.opened

pub write_entries-requires-clause-of : goal.write_entries-requires-clause-of
write_entries-requires-clause-of g c = of-opened (opening c.args.steps c.in_ok-replay.ensures.opened c.room.ensures c.in_ok-left.ensures)

pub write_entries-requires-clause-room : goal.write_entries-requires-clause-room
write_entries-requires-clause-room g c = room-opened (opening c.args.steps c.in_ok-replay.ensures.opened c.room.ensures c.in_ok-left.ensures)

pub write_entries-requires-clause-few : goal.write_entries-requires-clause-few
write_entries-requires-clause-few g c = few-opened (opening c.args.steps c.in_ok-replay.ensures.opened c.room.ensures c.in_ok-left.ensures)

pub returns-in_err-replay-clause-lines : goal.returns-in_err-replay-clause-lines
returns-in_err-replay-clause-lines g c = stopped-before g.K.Sink.held g.K.Sink.faults c.from_residual-in_err-replay.result c.args.out.now _ c.from_residual-in_err-replay.ensures.1

pub returns-in_err-numbers-clause-lines : goal.returns-in_err-numbers-clause-lines
returns-in_err-numbers-clause-lines g c = stopped-before g.K.Sink.held g.K.Sink.faults c.from_residual-in_err-numbers.result c.args.out.now _ c.from_residual-in_err-numbers.ensures.1

pub returns-in_err-write_group_line-clause-shown : goal.returns-in_err-write_group_line-clause-shown
returns-in_err-write_group_line-clause-shown g c = IfOk-from_err c.from_residual-in_err-write_group_line.result _ c.from_residual-in_err-write_group_line.ensures.0

pub returns-in_err-write_group_line-clause-lines : goal.returns-in_err-write_group_line-clause-lines
returns-in_err-write_group_line-clause-lines g c =
    let es : List Entry = group_told c.args.setup.now c.args.number.0 c.args.steps in
    let o = opening c.args.steps c.in_ok-replay.ensures.opened c.room.ensures c.in_ok-left.ensures in
    let line = line-opened o (known_in c.args.format.now) c.in_ok-replay.replay.cpus.items c.in_ok-replay.replay.links.items c.links.result.now c.links.ensures c.in_ok-replay.ensures.shows in
    stopped-first g.K.Sink.held g.K.Sink.faults (group-parts (known_in c.args.format.now) (group_with c.args.setup.now c.args.number.0) es _ _ _ line refl refl) c.args.out.now c.write_group_line.new.out
    c.from_residual-in_err-write_group_line.result c.in_err-write_group_line.field-0.0 c.from_residual-in_err-write_group_line.ensures.1 c.in_err-write_group_line.ensures

pub returns-in_err-write_entries-clause-lines : goal.returns-in_err-write_entries-clause-lines
returns-in_err-write_entries-clause-lines g c =
    let es : List Entry = group_told c.args.setup.now c.args.number.0 c.args.steps in
    let o = opening c.args.steps c.in_ok-replay.ensures.opened c.room.ensures c.in_ok-left.ensures in
    let line = line-opened o (known_in c.args.format.now) c.in_ok-replay.replay.cpus.items c.in_ok-replay.replay.links.items c.links.result.now c.links.ensures c.in_ok-replay.ensures.shows in
    let parts = group-parts (known_in c.args.format.now) (group_with c.args.setup.now c.args.number.0) es _ _ _ line (lines-opened o (known_in c.args.format.now)) refl in
    stopped-second g.K.Sink.held g.K.Sink.faults parts c.args.out.now c.write_group_line.new.out c.from_residual-in_err-write_entries.result c.in_err-write_entries.field-0.0 c.write_entries.new.out
    c.from_residual-in_err-write_entries.ensures.1 c.in_ok-write_group_line.ensures c.in_err-write_entries.ensures.lines

pub returns-clause-lines : goal.returns-clause-lines
returns-clause-lines g c =
    let es : List Entry = group_told c.args.setup.now c.args.number.0 c.args.steps in
    let o = opening c.args.steps c.in_ok-replay.ensures.opened c.room.ensures c.in_ok-left.ensures in
    let line = line-opened o (known_in c.args.format.now) c.in_ok-replay.replay.cpus.items c.in_ok-replay.replay.links.items c.links.result.now c.links.ensures c.in_ok-replay.ensures.shows in
    let blocks = blocks-played o (known_in c.args.format.now) c.write_entries.new.replay.engine c.requests.result.now c.in_ok-write_entries.ensures.played c.requests.ensures in
    let parts = group-parts (known_in c.args.format.now) (group_with c.args.setup.now c.args.number.0) es _ _ _ line (lines-opened o (known_in c.args.format.now)) blocks in
    came-third g.K.Sink.held g.K.Sink.faults parts c.args.out.now c.write_group_line.new.out c.write_blocks.result c.write_entries.new.out c.write_blocks.new.out
    c.in_ok-write_group_line.ensures c.in_ok-write_entries.ensures.lines c.write_blocks.ensures

pub returns-clause-shown : goal.returns-clause-shown
returns-clause-shown g c =
    let shown = shown-opened (opening c.args.steps c.in_ok-replay.ensures.opened c.room.ensures c.in_ok-left.ensures) in
    on_ok c.write_blocks.result (c.in_ok-write_entries.ensures.shown ∙ ap (λ (es : List Shown). counters_after es (counters g.T.TraceTool.tool c.args.bus.now)) shown)
