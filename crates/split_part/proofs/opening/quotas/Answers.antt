use Rattle.std.proofs.Common.{◌≡◌, ◌≤◌, ℕ, List, length, map, sym, ap, ◌∙◌, arith}
use Rattle.rt_task.specs.declared.Step.{Step}
use Rattle.rt_plays.proofs.SetLimits.{sets_are_in_limits}
use Rattle.rt_rules.specs.Numbers.{numbers_from}
use Rattle.rt_plays.specs.Drives.{steps_given}
use Rattle.rt_plays.specs.Room.{processor_count}
use Rattle.rt_plays.specs.Scripts.{script}
use Rattle.split_counts.specs.Room.{is_unlock}
use Rattle.split_laws.specs.Counts.{count_steps}
use Rattle.split_turns.proofs.ListLaws.{mapped-more}
use Rattle.part_player.proofs.OwnParts.{count-is}
use Rattle.split_part.proofs.opening.quotas.Goals as goal

pub overflow_cast-cpu : goal.overflow_cast-cpu
overflow_cast-cpu c =
    let few = (sets_are_in_limits c.args.setup.now c.parts-parts.ensures.valid).few_clusters in
    let n : length c.as_slice-cpu-end.result.now ≡ length c.args.setup.now.clusters = ap length c.as_slice-cpu-end.ensures ∙ ap (λ q. length q.clusters) c.parts-parts.ensures.parts in
    let h = c.loop-cpu-test.true in
    omega (arith, few, n, h)

pub loop-cpu-preserved : goal.loop-cpu-preserved
loop-cpu-preserved c = mapped-more (λ q. count_steps is_unlock (script c.steps_of-steps.result.now q)) c.loop-cpu.cpu _ _ _ c.in_ok-push.ensures.items c.loop-cpu.invariant c.unlocks_in.ensures

pub returns : goal.returns
returns c =
    let n : length c.as_slice-cpu-end.result.now ≡ length c.args.setup.now.clusters = ap length c.as_slice-cpu-end.ensures ∙ ap (λ q. length q.clusters) c.parts-parts.ensures.parts in
    let m = count-is c.args.setup.now c.parts-parts.ensures.valid c.requires in
    let h = c.loop-cpu-test.false in
    let end : c.loop-cpu.cpu ≡ processor_count c.args.setup.now = omega (arith, n, m, h, c.loop-cpu.auto.cpu-end) in
    let steps : c.steps_of-steps.result.now ≡ steps_given c.args.setup.now.drive = c.steps_of-steps.ensures.steps ∙ ap (λ q. steps_given q.drive) c.parts-parts.ensures.parts in
    c.loop-cpu.invariant ∙ ap (λ (xs : List Step). map (λ q. count_steps is_unlock (script xs q)) (numbers_from 0 c.loop-cpu.cpu)) steps
    ∙ ap (λ k. map (λ q. count_steps is_unlock (script (steps_given c.args.setup.now.drive) q)) (numbers_from 0 k)) end
