use Rattle.std.proofs.Common.{ℕ, List, false, length, sym, ap, ◌∙◌, subst, arith}
use Rattle.rt_base.specs.TaskNos.{numbers}
use Rattle.rt_task.specs.declared.Parts.{Parts}
use Rattle.rt_task.specs.declared.Cluster.{Cluster}
use Rattle.rt_task.specs.declared.Task.{Task}
use Rattle.rt_base.specs.declared.GroupNo.{GroupNo}
use Rattle.rt_base.specs.declared.TheConstants.{MOST_CPUS}
use Rattle.rt_model.specs.Group.{no_cluster}
use Rattle.rt_plays.specs.Plays.{group_with}
use Rattle.mpcp_ceilings.specs.Ceilings.{AreCeilings}
use Rattle.part_state.specs.States.{opened}
use Rattle.part_player.specs.inside.Openings.{tasks_at}
use Rattle.std.specs.Prelude.{slice_index_or}
use Rattle.rt_plays.proofs.SetLimits.{sets_are_in_limits}
use Rattle.part_player.specs.Kept.{IsKept}
use Rattle.part_player.specs.Players.{IsOfSplit, own_script}
use Rattle.part_player.proofs.FinishLaws.{opened-kept}
use Rattle.part_player.proofs.OwnParts.{own-group}
use Rattle.part_player.proofs.player.Player.open.Goals as goal

pub tasks_of-requires : goal.tasks_of-requires
tasks_of-requires c =
    let few = (sets_are_in_limits c.args.setup.now c.parts-parts.ensures.valid).few_tasks in
    let all = ap length (c.as_slice.ensures ∙ ap (λ p. p.tasks) c.parts-parts.ensures.parts) in
    omega (arith, few, all)

pub overflow_cast-count : goal.overflow_cast-count
overflow_cast-count c =
    let few = (sets_are_in_limits c.args.setup.now c.parts-parts.ensures.valid).few_tasks in
    let all = ap length (c.as_slice-3.ensures ∙ ap (λ p. p.tasks) c.parts-parts.ensures.parts) in
    omega (arith, few, all)

pub open-requires-2 : goal.open-requires-2
open-requires-2 c =
    let few = (sets_are_in_limits c.args.setup.now c.parts-parts.ensures.valid).few_tasks in
    let all = ap length (c.as_slice-3.ensures ∙ ap (λ p. p.tasks) c.parts-parts.ensures.parts) in
    omega (arith, few, all)

pub invariant_of-result : goal.invariant_of-result
invariant_of-result c =
    let p : Parts = c.args.setup.now in
    let q : ℕ = c.args.cpu.0 in
    let of : IsOfSplit p q = record { valid = c.parts-parts.ensures.valid; split = c.requires.split; there = c.requires.there } in
    let parts = c.parts-parts.ensures.parts in
    let rows = c.as_slice-2.ensures ∙ ap (λ (x : Parts). x.clusters) parts in
    let group = ap (λ (g : GroupNo). g.0) c.group_of-group.ensures ∙ ap (λ (ks : List Cluster). (slice_index_or ks q no_cluster).group.0) rows ∙ own-group p q of in
    let ceilings = subst (λ (x : Parts). AreCeilings (group_with x c.group_of-group.result.0) c.in_ok-ceilings.ceilings) parts c.in_ok-ceilings.ensures in
    let script = c.in_ok-script.ensures ∙ ap (λ (x : Parts). own_script x q) parts in
    let tasks = c.in_ok-tasks.ensures ∙ ap (λ (ts : List Task). tasks_at ts q) (c.as_slice.ensures ∙ ap (λ (x : Parts). x.tasks) parts) in
    let count = ap length (c.as_slice-3.ensures ∙ ap (λ (x : Parts). x.tasks) parts) in
    let state = c.in_ok-state.ensures ∙ ap (λ n. opened n MOST_CPUS) count in
    subst (λ (x : Parts). IsKept x q c.new.result.items false c.in_ok-script.script.items 0 (numbers c.in_ok-tasks.tasks.items) c.in_ok-ceilings.ceilings c.in_ok-state.state)
    (sym c.in_ok-share.ensures)
    (opened-kept p q of c.new.result.items _ _ _ _ _ c.new.ensures.items script tasks group ceilings state)
