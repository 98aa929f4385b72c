use Rattle.std.proofs.Common.{ap, arith, drop, get_or, length, List, subst, sym, take, ℕ, ◌+◌, ◌++◌, ◌<◌, ◌∙◌, ◌≡◌}
use Rattle.std.proofs.Math.Seq.{take-append_seam}
use Rattle.std.specs.Prelude.{Option, if◌then◌else◌, slice_index_or, ◌==◌}
use Rattle.rt_task.specs.declared.Task.{Task}
use Rattle.rt_model.specs.Group.{Group, no_cluster}
use Rattle.rt_plays.specs.Plays.{group_with}
use Rattle.mpcp_ceilings.specs.inside.Noting.{noted_uses}
use Rattle.mpcp_ceilings.specs.declared.user_prios.UserPrios.{UserPrios}
use Rattle.mpcp_ceilings.proofs.NotedLaws.{AreNoted, noted-all, noted-read}
use Rattle.mpcp_ceilings.proofs.noting.noted_rows.Goals as goal

pub loop-task-preserved : goal.loop-task-preserved
loop-task-preserved c =
    let g : Group = group_with c.args.parts.now c.args.group.0 in
    let k : ℕ = c.loop-task.task-index in
    let old : List (Option UserPrios) = c.loop-task.rows.items in
    let new : List (Option UserPrios) = c.note_task.new.rows in
    let x : Task = c.task-item.result in
    let low : k < length g.setup.tasks = omega (arith, c.loop-task-test.true, ap length c.as_slice-task-items.ensures) in
    let read : x ≡ get_or g.setup.tasks k x = c.task-item.is ∙ ap (λ ts. get_or ts k x) c.as_slice-task-items.ensures in
    let made = c.note_task.ensures ∙ ap (λ rs. if (slice_index_or c.as_slice-clusters.result.now x.cluster.0 no_cluster).group.0 == c.args.group.0 then noted_uses x.prio x.cluster x.uses rs else rs) c.as_mut_slice.ensures.value in
    let wide : c.loop-task.rows.len ≡ length new = sym c.as_mut_slice.ensures.len ∙ sym c.note_task.auto.rows in
    let back : take c.loop-task.rows.len (new ++ drop (length new) old) ≡ new = ap (λ n. take n (new ++ drop (length new) old)) wide ∙ take-append_seam new (drop (length new) old) in
    subst (AreNoted g (k + 1)) (sym back) (noted-read g k x c.as_slice-clusters.result.now old new c.loop-task.invariant low read c.as_slice-clusters.ensures made)

pub returns : goal.returns
returns c =
    let g : Group = group_with c.args.parts.now c.args.group.0 in
    let all : c.loop-task.task-index ≡ length g.setup.tasks = omega (arith, c.loop-task-test.false, c.loop-task.auto.task-index-end, ap length c.as_slice-task-items.ensures) in
    noted-all g c.loop-task.rows.items (subst (λ n. AreNoted g n c.loop-task.rows.items) all c.loop-task.invariant)
