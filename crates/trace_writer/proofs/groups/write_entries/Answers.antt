use Rattle.std.proofs.Common.{ap, sym, ◌∙◌, refl, arith}
use Rattle.rt_model.specs.Group.{Group}
use Rattle.rt_plays.specs.Groups.{GroupHistory}
use Rattle.trace_lines.specs.Known.{known_in}
use Rattle.trace_lines.specs.Lines.{links_of}
use Rattle.trace_tools.specs.BusCounters.{counters}
use Rattle.trace_writer.proofs.CameLaws.{comes-cut, comes-last, coming-by, coming-gathered, gathers, gathers-none, sends-next, sends-stop}
use Rattle.trace_writer.proofs.Stepping.{lent-group, lent-of, line-next, lines-end, playing-end, playing-first, playing-next, room-next, same-next, shown-end, shown-next, taking}
use Rattle.trace_writer.proofs.Replays.{on_ok}
use Rattle.trace_writer.proofs.groups.write_entries.Goals as goal

pub loop-step-init : goal.loop-step-init
loop-step-init g c = record {
  playing = playing-first c.args.replay.now.engine c.args.left.now c.requires.of c.requires.room;
  shows = c.requires.shows;
  coming = coming-gathered (g.K.Sink.held c.args.out.now) (g.K.Sink.faults c.args.out.now) _ _ c.clear.ensures.items;
  shown = refl;
}

pub next-requires-clause-of : goal.next-requires-clause-of
next-requires-clause-of g c = lent-of c.loop-step.invariant.playing (c.engine-in-loop-step.ensures ∙ c.engine.ensures)

pub next-requires-clause-setup : goal.next-requires-clause-setup
next-requires-clause-setup g c =
    ap (λ (x : Group). x.setup) (lent-group c.loop-step.invariant.playing (c.engine-in-loop-step.ensures ∙ c.engine.ensures)) ∙ c.requires.setup

pub step-requires-clause-room : goal.step-requires-clause-room
step-requires-clause-room g c =
    room-next (taking c.next.new.self c.in-Some.step c.loop-step.invariant.playing (c.engine-in-loop-step.ensures ∙ c.engine.ensures) c.in-Some.ensures.next c.in-Some.ensures.of)

pub loop-step-smaller : goal.loop-step-smaller
loop-step-smaller g c =
    let some = room-next (taking c.next.new.self c.in-Some.step c.loop-step.invariant.playing (c.engine-in-loop-step.ensures ∙ c.engine.ensures) c.in-Some.ensures.next c.in-Some.ensures.of) in
    omega (arith, some, c.in_ok-reply.ensures.taken.spare_is)

pub returns-in_err-reply-clause-lines : goal.returns-in_err-reply-clause-lines
returns-in_err-reply-clause-lines g c = comes-cut g.K.Sink.held g.K.Sink.faults c.args.out.now c.loop-step.out _ c.from_residual.result _ c.from_residual.ensures.1 c.loop-step.invariant.coming

pub returns-in_err-put_entry_line-clause-lines : goal.returns-in_err-put_entry_line-clause-lines
returns-in_err-put_entry_line-clause-lines g c = comes-cut g.K.Sink.held g.K.Sink.faults c.args.out.now c.loop-step.out _ c.from_residual-in_err-put_entry_line.result _ c.from_residual-in_err-put_entry_line.ensures.1 c.loop-step.invariant.coming

pub returns-in_err-write_when_long-clause-lines : goal.returns-in_err-write_when_long-clause-lines
returns-in_err-write_when_long-clause-lines g c =
    let t = taking c.next.new.self c.in-Some.step c.loop-step.invariant.playing (c.engine-in-loop-step.ensures ∙ c.engine.ensures) c.in-Some.ensures.next c.in-Some.ensures.of in
    let line = line-next t c.in_ok-reply.ensures.taken (known_in c.args.format.now) (links_of c.changed.result.now) (ap links_of c.changed.ensures ∙ c.in_ok-reply.ensures.changed) in
    sends-stop g.K.Sink.held g.K.Sink.faults c.args.out.now c.loop-step.out _ c.from_residual-in_err-write_when_long.result c.in_err-write_when_long.field-0.0 c.write_when_long.new.out _ c.write_when_long.new.lines.items _
    c.from_residual-in_err-write_when_long.ensures.1 (coming-by (gathers _ _ _ _ _ c.in_ok-put_entry_line.ensures line) c.loop-step.invariant.coming) c.in_err-write_when_long.ensures

pub show-requires : goal.show-requires
show-requires g c =
    let t = taking c.next.new.self c.in-Some.step c.loop-step.invariant.playing (c.engine-in-loop-step.ensures ∙ c.engine.ensures) c.in-Some.ensures.next c.in-Some.ensures.of in
    ap (λ (h : GroupHistory). h.group) c.engine-in-Some.ensures ∙ ap (λ (x : Group). x.number) (same-next t c.in_ok-reply.ensures.taken) ∙ c.requires.number

pub loop-step-preserved : goal.loop-step-preserved
loop-step-preserved g c =
    let t = taking c.next.new.self c.in-Some.step c.loop-step.invariant.playing (c.engine-in-loop-step.ensures ∙ c.engine.ensures) c.in-Some.ensures.next c.in-Some.ensures.of in
    let line = line-next t c.in_ok-reply.ensures.taken (known_in c.args.format.now) (links_of c.changed.result.now) (ap links_of c.changed.ensures ∙ c.in_ok-reply.ensures.changed) in
    record {
      playing = playing-next t c.in_ok-reply.ensures.taken;
      shows = c.in_ok-reply.ensures.shows;
      coming = sends-next g.K.Sink.held g.K.Sink.faults c.args.out.now c.loop-step.out _ c.write_when_long.new.out _ c.write_when_long.new.lines.items _ (coming-by (gathers _ _ _ _ _ c.in_ok-put_entry_line.ensures line) c.loop-step.invariant.coming) c.in_ok-write_when_long.ensures;
      shown = shown-next t c.in_ok-reply.ensures.taken (counters g.T.TraceTool.tool c.loop-step.bus) (counters g.T.TraceTool.tool c.show.new.bus) c.engine-in-Some.ensures c.show.ensures ∙ c.loop-step.invariant.shown;
    }

pub returns-clause-lines : goal.returns-clause-lines
returns-clause-lines g c =
    let none = lines-end c.loop-step.invariant.playing (c.engine-in-loop-step.ensures ∙ c.engine.ensures) c.in_default.ensures.next (known_in c.args.format.now) in
    comes-last g.K.Sink.held g.K.Sink.faults c.args.out.now c.loop-step.out _ c.write_bytes.result c.write_bytes.new.out _ (coming-by (gathers-none _ _ _ c.as_slice.ensures.value none) c.loop-step.invariant.coming) c.write_bytes.ensures

pub returns-clause-played : goal.returns-clause-played
returns-clause-played g c = on_ok c.write_bytes.result (playing-end c.loop-step.invariant.playing (c.engine-in-loop-step.ensures ∙ c.engine.ensures) c.in_default.ensures.next)

pub returns-clause-shown : goal.returns-clause-shown
returns-clause-shown g c =
    on_ok c.write_bytes.result (sym (shown-end c.loop-step.invariant.playing (c.engine-in-loop-step.ensures ∙ c.engine.ensures) c.in_default.ensures.next (counters g.T.TraceTool.tool c.loop-step.bus)) ∙ c.loop-step.invariant.shown)
