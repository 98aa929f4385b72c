use Rattle.std.proofs.Common.{ap, sym, ◌∙◌, refl, arith}
use Rattle.rt_model.specs.Group.{Group}
use Rattle.rt_plays.specs.Groups.{GroupHistory}
use Rattle.trace_tools.specs.BusCounters.{counters}
use Rattle.trace_writer.proofs.Replays.{taken-entry}
use Rattle.trace_writer.proofs.Stepping.{count-end, lent-group, lent-of, playing-end, playing-first, playing-next, room-next, shown-end, shown-next, taking}
use Rattle.trace_writer.proofs.summary.take_steps.Goals as goal

pub loop-step-init : goal.loop-step-init
loop-step-init g c = record { playing = playing-first c.args.engine.now c.args.left.now c.requires.of c.requires.room; shown = refl }

pub next-requires-clause-of : goal.next-requires-clause-of
next-requires-clause-of g c = lent-of c.loop-step.invariant.playing c.engine.ensures

pub next-requires-clause-setup : goal.next-requires-clause-setup
next-requires-clause-setup g c = ap (λ (x : Group). x.setup) (lent-group c.loop-step.invariant.playing c.engine.ensures) ∙ c.requires.setup

pub step-reply-requires-clause-room : goal.step-reply-requires-clause-room
step-reply-requires-clause-room g c = room-next (taking c.next.new.self c.in-Some.step c.loop-step.invariant.playing c.engine.ensures c.in-Some.ensures.next c.in-Some.ensures.of)

pub loop-step-smaller : goal.loop-step-smaller
loop-step-smaller g c =
    let some = room-next (taking c.next.new.self c.in-Some.step c.loop-step.invariant.playing c.engine.ensures c.in-Some.ensures.next c.in-Some.ensures.of) in
    omega (arith, some, ap (λ (x : GroupHistory). x.spare) c.step-reply.ensures.entry)

pub show-requires : goal.show-requires
show-requires g c = ap (λ (h : GroupHistory). h.group) c.step-reply.ensures.entry ∙ ap (λ (x : Group). x.number) c.loop-step.invariant.playing.same_group ∙ c.requires.number

pub loop-step-preserved : goal.loop-step-preserved
loop-step-preserved g c =
    let t = taking c.next.new.self c.in-Some.step c.loop-step.invariant.playing c.engine.ensures c.in-Some.ensures.next c.in-Some.ensures.of in
    let taken = taken-entry c.loop-step.engine c.step-reply.new.self c.in-Some.step c.step-reply.result c.step-reply.ensures.entry c.step-reply.ensures.reply in
    record {
      playing = playing-next t taken;
      shown = shown-next t taken (counters g.T.TraceTool.tool c.loop-step.bus) (counters g.T.TraceTool.tool c.show.new.bus) refl c.show.ensures ∙ c.loop-step.invariant.shown;
    }

pub returns-clause-count : goal.returns-clause-count
returns-clause-count g c = count-end c.loop-step.invariant.playing c.engine.ensures c.in_default.ensures.next

pub returns-clause-played : goal.returns-clause-played
returns-clause-played g c = playing-end c.loop-step.invariant.playing c.engine.ensures c.in_default.ensures.next

pub returns-clause-shown : goal.returns-clause-shown
returns-clause-shown g c = sym (shown-end c.loop-step.invariant.playing c.engine.ensures c.in_default.ensures.next (counters g.T.TraceTool.tool c.loop-step.bus)) ∙ c.loop-step.invariant.shown
