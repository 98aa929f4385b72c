use Rattle.std.proofs.Common.{◌≡◌, [], map, take, All}
use Rattle.rt_base.specs.TaskNos.{numbers}
use Rattle.rt_model.specs.Group.{Group}
use Rattle.span_feed.specs.Lane.{TaskLane, track_to}
use Rattle.span_feed.specs.Spanned.{task_spanned}
use Rattle.span_feed.specs.declared.stay.Stay.TheVariants.{Changes}
use Rattle.span_feed.proofs.opening.task_lanes.Given as goal

-- the lanes of those so far
abbrev pub invariant-loop-task : goal.invariant-loop-task
invariant-loop-task l =
    ((g : Group) → map (track_to 0) l.lanes.items ≡ map (task_spanned g []) (numbers (take l.task-index l.tasks))) × All (λ (x : TaskLane). x.stays ≡ Changes) l.lanes.items
