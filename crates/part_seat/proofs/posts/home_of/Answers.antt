use Rattle.std.proofs.Common.{◌-◌, ◌<◌, List, length, ap, ◌∙◌, arith}
use Rattle.std.proofs.lemmas.List.{get_or_default}
use Rattle.std.specs.Prelude.{slice_index_or}
use Rattle.rt_task.specs.declared.Task.{Task}
use Rattle.rt_model.specs.Group.{home, no_task, task}
use Rattle.part_seat.proofs.posts.home_of.Goals as goal

pub returns : goal.returns
unfolding home task
returns c =
    let low : c.args.task.0 - 1 < length c.as_slice.result.now = let l = c.requires.low in let h = c.requires.high in let n = ap length c.as_slice.ensures in omega (arith, l, h, n) in
    ap (λ (t : Task). t.cluster.0) (get_or_default c.as_slice.result.now (c.args.task.0 - 1) c.index-as_slice-task.result no_task low
    ∙ ap (λ (ts : List Task). slice_index_or ts (c.args.task.0 - 1) no_task) c.as_slice.ensures)
