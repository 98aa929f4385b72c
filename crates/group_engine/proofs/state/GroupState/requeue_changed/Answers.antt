use Rattle.std.proofs.Common.{◌≡◌, length, ap, sym, ◌∙◌, arith}
use Rattle.std.proofs.lemmas.List.{length-map}
use Rattle.rt_base.specs.declared.TaskNo.{TaskNo}
use Rattle.group_engine.proofs.Requeueing.{as-long, next-can, next-requeued}
use Rattle.group_engine.proofs.state.GroupState.requeue_changed.Goals as goal

pub bounds-changed-i : goal.bounds-changed-i
bounds-changed-i c =
    let all : length c.changed-i-end.result.now ≡ length c.args.self.now.core.facts.resvs.changed = sym (length-map c.changed-i-end.result.now (λ (t : TaskNo). t.0)) ∙ ap length c.changed-i-end.ensures in
    let same = as-long c.args.parts.now c.args.self.now c.loop-i.self c.loop-i.i c.loop-i.invariant c.changed.result.now c.changed.ensures in
    let low = c.loop-i-test.true in
    omega (arith, all, same, low)

pub requeue-requires : goal.requeue-requires
requeue-requires c =
    let all : length c.changed-i-end.result.now ≡ length c.args.self.now.core.facts.resvs.changed = sym (length-map c.changed-i-end.result.now (λ (t : TaskNo). t.0)) ∙ ap length c.changed-i-end.ensures in
    let same = as-long c.args.parts.now c.args.self.now c.loop-i.self c.loop-i.i c.loop-i.invariant c.changed.result.now c.changed.ensures in
    let low = c.loop-i-test.true in
    next-can c.args.parts.now c.args.self.now c.loop-i.self c.loop-i.i c.loop-i.invariant c.changed.result.now c.changed.ensures (omega (arith, all, same, low)) c.requires

pub loop-i-preserved : goal.loop-i-preserved
loop-i-preserved c =
    let all : length c.changed-i-end.result.now ≡ length c.args.self.now.core.facts.resvs.changed = sym (length-map c.changed-i-end.result.now (λ (t : TaskNo). t.0)) ∙ ap length c.changed-i-end.ensures in
    let same = as-long c.args.parts.now c.args.self.now c.loop-i.self c.loop-i.i c.loop-i.invariant c.changed.result.now c.changed.ensures in
    let low = c.loop-i-test.true in
    c.requeue.ensures ∙ next-requeued c.args.parts.now c.args.self.now c.loop-i.self c.loop-i.i c.loop-i.invariant c.changed.result.now c.changed.ensures (omega (arith, all, same, low))
