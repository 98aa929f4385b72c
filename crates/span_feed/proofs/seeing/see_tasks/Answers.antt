use Rattle.std.proofs.Common.{◌≡◌, ◌∙◌, get_or, subst, sym, true}
use Rattle.std.specs.Prelude.{None, slice_index_or}
use Rattle.rt_rules.specs.Numbers.{has}
use Rattle.rt_model.specs.Group.{tasks}
use Rattle.rank_afresh.specs.Standing.{group_of}
use Rattle.chart_rows.specs.Rows.{TaskKept, task_seen}
use Rattle.chart_rows.proofs.Changed.{changed-all, changed-all-at, changed-at, changed-more}
use Rattle.span_feed.specs.Lane.{TaskLane}
use Rattle.span_feed.specs.Still.{IsStill}
use Rattle.span_feed.proofs.seeing.see_tasks.Goals as goal

pub see_task-requires-clause-task : goal.see_task-requires-clause-task
see_task-requires-clause-task c =
    let g = group_of c.args.afresh.now in
    let past = c.requires.at.0 in
    let so_far = c.loop-i.invariant.0 past c.requires.at.1 c.requires.at.2 c.requires.at.3 in
    changed-all-at (λ (k : TaskKept). has k.task (tasks g) ≡ true) (task_seen g past) c.args.tasks.now c.loop-i.tasks c.loop-i.i c.index-tasks-i.result c.requires.tasks c.loop-i-test.true so_far.0 c.index-tasks-i.is

pub loop-i-preserved : goal.loop-i-preserved
loop-i-preserved c = (
  λ past at clock known.
      let g = group_of c.args.afresh.now in
      let so_far = c.loop-i.invariant.0 past at clock known in
      let f = task_seen g past in
      let r : TaskKept = c.index-tasks-i.result in
      let l : TaskLane = c.index-lanes-i.result in
      let was = changed-at f c.args.tasks.now c.loop-i.tasks c.loop-i.i r c.loop-i-test.true so_far.0 c.index-tasks-i.is in
      let still = subst (λ (k : TaskKept). IsStill (slice_index_or c.args.ready.now k.task None) l k) (sym was)
      (subst (λ (x : TaskLane). IsStill (slice_index_or c.args.ready.now (get_or c.args.tasks.now c.loop-i.i r).task None) x (get_or c.args.tasks.now c.loop-i.i r)) (sym c.index-lanes-i.is) (c.requires.still c.loop-i.i l r c.loop-i-test.true)) in
      let rests_on : IsStill (slice_index_or c.loop-i.ready r.task None) l r = λ j rests. (c.loop-i.invariant.1 r.task j (still j rests).0, (still j rests).1) in
      let here = subst (λ (k : TaskKept). IsStill (slice_index_or c.loop-i.ready k.task None) l k) c.index-tasks-i.is rests_on in (
        changed-more f c.args.tasks.now c.loop-i.tasks c.loop-i.i r c.see_task.new.row c.loop-i-test.true so_far.0 c.index-tasks-i.is (c.in_ok-see_task.ensures.row past at clock so_far.1 here),
        c.in_ok-see_task.ensures.knows past at so_far.1,
      ),
  λ t j h. c.see_task.ensures.known t j (c.loop-i.invariant.1 t j h),
)

pub returns-clause-tasks : goal.returns-clause-tasks
returns-clause-tasks c = λ past at clock known. (c.loop-i.invariant.0 past at clock known).0 ∙ changed-all (task_seen (group_of c.args.afresh.now) past) c.args.tasks.now c.loop-i.i c.loop-i-test.false
