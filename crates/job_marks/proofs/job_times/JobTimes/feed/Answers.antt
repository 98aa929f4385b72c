use Rattle.std.specs.Vec.{with_items}
use Rattle.std.proofs.lemmas.List.{with_items_is}
use Rattle.std.proofs.Common.{◌≡◌, ap, arith, length}
use Rattle.view_acts.specs.ShownActs.{act_shown}
use Rattle.job_marks.proofs.Feeding.{kept-after}
use Rattle.job_marks.proofs.job_times.JobTimes.feed.Goals as goal

pub returns-clause-kept : goal.returns-clause-kept
returns-clause-kept c =
    let old = c.args.self.now.tasks in
    let long : length c.end.new.tasks ≡ old.len = omega (arith, c.end.auto.tasks, c.arrive.auto.tasks, ap length c.as_mut_slice-tasks.ensures.value, old.ok.0) in
    kept-after c.args.self.now (record { tasks = with_items old c.end.new.tasks }) c.args.clock.0 (act_shown c.args.act.now) c.as_mut_slice-tasks.result.now c.arrive.new.tasks c.end.new.tasks c.as_mut_slice-tasks.ensures.value c.arrive.auto.tasks c.end.auto.tasks c.in_ok-arrive.ensures c.in_ok-end.ensures (with_items_is old c.end.new.tasks long)
