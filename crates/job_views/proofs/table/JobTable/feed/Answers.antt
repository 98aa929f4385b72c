use Rattle.std.specs.Vec.{with_items}
use Rattle.std.proofs.lemmas.List.{with_items_is}
use Rattle.std.proofs.Math.ListN.{set}
use Rattle.std.proofs.Common.{◌≡◌, ◌+◌, ◌<◌, ◌≤◌, ℕ, true, false, length, refl, rules, sym, ap, subst, arith}
use Rattle.rt_base.specs.declared.TheConstants.{MOST_STEPS}
use Rattle.job_views.specs.Told.{jobs_in}
use Rattle.job_views.proofs.Feeding.{asked-low, kept-after, moves-room, run-room}
use Rattle.job_views.proofs.table.JobTable.feed.Goals as goal

pub take_up-requires : goal.take_up-requires
take_up-requires c =
    let r = moves-room c.args.self.now c.requires.next.0 c.args.clock.0 _ c.requires.next.1 in
    subst (λ xs. (t : ℕ) → t < length xs → (jobs_in xs t).current.moves ≤ MOST_STEPS) (sym c.as_mut_slice-tasks.ensures.value) r

pub run-requires-clause-room : goal.run-requires-clause-room
run-requires-clause-room c = run-room c.args.self.now c.requires.next.0 c.args.clock.0 _ c.requires.next.1 c.as_mut_slice-tasks.result.now c.take_up.new.tasks c.as_mut_slice-tasks.ensures.value c.take_up.auto.tasks c.take_up.ensures

pub overflow_add-self : goal.overflow_add-self
overflow_add-self c = let low = asked-low c.args.self.now c.requires.next.0 c.args.clock.0 _ c.requires.next.1 in omega (arith, low)

pub returns-then-asks-clause-kept : goal.returns-then-asks-clause-kept
returns-then-asks-clause-kept c = λ past can.
    let long : length c.end.new.tasks ≡ c.args.self.now.tasks.len = omega (arith, c.end.auto.tasks, c.arrive.auto.tasks, c.run.auto.tasks, c.take_up.auto.tasks, ap length c.as_mut_slice-tasks.ensures.value, c.args.self.now.tasks.ok.0) in
    kept-after c.args.self.now (record { tasks = with_items c.args.self.now.tasks c.end.new.tasks; workers = set c.args.self.now.workers c.args.act.now.cpu.0 c.worker_after.result; asked = c.args.self.now.asked + 1 }) c.args.clock.0 _ _ c.worker_after.result c.as_mut_slice-tasks.result.now c.take_up.new.tasks c.run.new.tasks c.arrive.new.tasks c.end.new.tasks (record {
      same = c.as_mut_slice-tasks.ensures.value;
      long1 = c.take_up.auto.tasks;
      long2 = c.run.auto.tasks;
      long3 = c.arrive.auto.tasks;
      long4 = c.end.auto.tasks;
      taken = c.take_up.ensures;
      ran = c.in_ok-run.ensures;
      arrived = c.in_ok-arrive.ensures;
      ended = c.in_ok-end.ensures;
      worker_is = refl;
      workers_long = search rules;
      worker_then = c.worker_after.ensures;
    }) (with_items_is c.args.self.now.tasks c.end.new.tasks long) refl true (sym c.if-asks.ensures) refl past can

pub returns-else-asks-clause-kept : goal.returns-else-asks-clause-kept
returns-else-asks-clause-kept c = λ past can.
    let long : length c.end.new.tasks ≡ c.args.self.now.tasks.len = omega (arith, c.end.auto.tasks, c.arrive.auto.tasks, c.run.auto.tasks, c.take_up.auto.tasks, ap length c.as_mut_slice-tasks.ensures.value, c.args.self.now.tasks.ok.0) in
    kept-after c.args.self.now (record { tasks = with_items c.args.self.now.tasks c.end.new.tasks; workers = set c.args.self.now.workers c.args.act.now.cpu.0 c.worker_after.result; asked = c.args.self.now.asked }) c.args.clock.0 _ _ c.worker_after.result c.as_mut_slice-tasks.result.now c.take_up.new.tasks c.run.new.tasks c.arrive.new.tasks c.end.new.tasks (record {
      same = c.as_mut_slice-tasks.ensures.value;
      long1 = c.take_up.auto.tasks;
      long2 = c.run.auto.tasks;
      long3 = c.arrive.auto.tasks;
      long4 = c.end.auto.tasks;
      taken = c.take_up.ensures;
      ran = c.in_ok-run.ensures;
      arrived = c.in_ok-arrive.ensures;
      ended = c.in_ok-end.ensures;
      worker_is = refl;
      workers_long = search rules;
      worker_then = c.worker_after.ensures;
    }) (with_items_is c.args.self.now.tasks c.end.new.tasks long) refl false (sym c.if-asks.ensures) refl past can
