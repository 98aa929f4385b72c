use Rattle.std.proofs.Common.{◌≡◌, ◌<◌, [], length, ap, ◌∙◌, arith}
use Rattle.std.proofs.lemmas.List.Elements.{All-from_get_or}
use Rattle.rt_task.specs.declared.Parts.{Parts}
use Rattle.rt_task.specs.declared.Task.{Task}
use Rattle.rt_model.specs.Group.{Group, no_task, tasks}
use Rattle.rt_plays.specs.Plays.{group_with}
use Rattle.rt_plays.specs.Limits.{IsInLimits}
use Rattle.rt_plays.proofs.SetLimits.{sets_are_in_limits}
use Rattle.group_core.specs.Facts.{WithRoom}
use Rattle.group_engine.specs.declared.state.GroupState.{GroupState}
use Rattle.group_engine.specs.Ending.{IsEnding}
use Rattle.group_engine.specs.Moments.{IsPlayed}
use Rattle.group_engine.proofs.UpdateLaws.{core-brought}
use Rattle.group_engine.proofs.Opening.{can-all, opened-at}
use Rattle.group_engine.proofs.state.GroupState.open.Goals as goal
use Rattle.group_engine.proofs.state.GroupState.open.Goals.{After-as_slice, After-update_group}

limits : (c : After-as_slice) → IsInLimits c.args.setup.now
limits c = sets_are_in_limits c.args.setup.now c.parts-parts.ensures.valid

few : (c : After-as_slice) → length c.as_slice.result.now ≡ length c.args.setup.now.tasks
few c = ap length c.as_slice.ensures ∙ ap (λ (p : Parts). length p.tasks) c.parts-parts.ensures.parts

pub overflow_cast-count : goal.overflow_cast-count
overflow_cast-count c = let done = (goal.at.overflow_cast-count c).After-as_slice in omega (arith, (limits done).few_tasks, few done)

pub open-requires : goal.open-requires
open-requires c = limits (goal.at.open-requires c).After-as_slice

pub overflow_add-count : goal.overflow_add-count
overflow_add-count c = let done = (goal.at.overflow_add-count c).After-as_slice in omega (arith, (limits done).few_tasks, few done)

pub overflow_add-count-2 : goal.overflow_add-count-2
overflow_add-count-2 c = let done = (goal.at.overflow_add-count-2 c).After-as_slice in omega (arith, (limits done).few_tasks, few done)

pub open-requires-2-clause-few : goal.open-requires-2-clause-few
open-requires-2-clause-few c = rw (c.as_slice-2.ensures, c.parts-parts.ensures.parts) (limits (goal.at.open-requires-2-clause-few c).After-as_slice).few_clusters

pub open-requires-2-clause-cpus : goal.open-requires-2-clause-cpus
open-requires-2-clause-cpus c = rw (c.as_slice-2.ensures, c.parts-parts.ensures.parts) (limits (goal.at.open-requires-2-clause-cpus c).After-as_slice).few_cpus

pub update_group-requires-clause-within : goal.update_group-requires-clause-within
update_group-requires-clause-within c =
    let p : Parts = c.args.setup.now in
    let all = limits (goal.at.update_group-requires-clause-within c).After-as_slice in
    rw c.parts-parts.ensures.parts (All-from_get_or (λ (t : Task). t.cluster.0 < length p.clusters) p.tasks no_task (λ i low. (all.tasks_in i low).cluster_there))

pub update_group-requires-clause-can : goal.update_group-requires-clause-can
update_group-requires-clause-can c =
    let g : Group = group_with c.args.setup.now c.args.group.0 in
    let played : IsPlayed g = record { valid = c.parts-parts.ensures.valid; is_there = c.requires.group } in
    rw (c.in_ok-new.ensures, c.in_ok-open-2.ensures, c.as_slice.ensures, c.as_slice-2.ensures, c.parts-parts.ensures.parts) (can-all g played c.args.room c.in_ok-open.field-0 c.in_ok-open.ensures)

-- the opening is to be ended
ending : (c : After-update_group) → IsEnding (group_with c.args.setup.now c.args.group.0) [] c.update_group.new.self
ending c =
    let g : Group = group_with c.args.setup.now c.args.group.0 in
    let played : IsPlayed g = record { valid = c.parts-parts.ensures.valid; is_there = c.requires.group } in
    rw (c.update_group.ensures, c.in_ok-new.ensures, c.in_ok-open-2.ensures, c.as_slice.ensures, c.as_slice-2.ensures, c.parts-parts.ensures.parts) (opened-at g played c.args.room c.in_ok-open.field-0 c.in_ok-open.ensures)

pub end_move-requires : goal.end_move-requires
end_move-requires c = (
  record { group = group_with c.args.setup.now c.args.group.0; past = [] },
  record {
    played = record { valid = c.parts-parts.ensures.valid; is_there = c.requires.group };
    ending = ending (goal.at.end_move-requires c).After-update_group;
    parts_are = c.parts-parts.ensures.parts;
  },
)

pub returns-clause-played : goal.returns-clause-played
returns-clause-played c = record { valid = c.parts-parts.ensures.valid; is_there = c.requires.group }

pub returns-clause-at : goal.returns-clause-at
returns-clause-at c =
    c.end_move.ensures.at (record { group = group_with c.args.setup.now c.args.group.0; past = [] }) (record {
      played = record { valid = c.parts-parts.ensures.valid; is_there = c.requires.group };
      ending = ending (goal.at.returns-clause-at c).After-update_group;
      parts_are = c.parts-parts.ensures.parts;
    })

pub returns-clause-room : goal.returns-clause-room
returns-clause-room c =
    let s0 : GroupState = record { core = c.in_ok-open.field-0; timers = c.in_ok-new.field-0; clusters = c.in_ok-open-2.field-0 } in
    c.end_move.ensures.room ∙ ap (λ (s : GroupState). s.core.room) c.update_group.ensures
    ∙ ap (λ (x : WithRoom). x.room) (core-brought c.parts-parts.result.now (tasks (group_with c.parts-parts.result.now c.args.group.0)) s0) ∙ c.in_ok-open.ensures.room_is
