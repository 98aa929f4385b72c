use Rattle.std.proofs.Common.{◌≤◌, length, ap, arith}
use Rattle.rt_task.specs.declared.Parts.{Parts}
use Rattle.group_engine.specs.Words.{WaitingList}
use Rattle.trace_writer.proofs.Replays.{counts-open}
use Rattle.trace_writer.proofs.counted.CountingEngine.open.Goals as goal

pub invariant_of-result : goal.invariant_of-result
invariant_of-result c =
    let few : length c.args.setup.now.tasks ≤ c.in_ok-waiting.waiting.room =
    omega (arith, ap (λ (l : WaitingList). l.room) c.in_ok-waiting.ensures, ap length c.as_slice.ensures, ap (λ (p : Parts). length p.tasks) c.parts.ensures.parts) in
    counts-open c.in_ok-engine.engine c.in_ok-asked.asked c.in_ok-waiting.waiting.room c.args.setup.now c.args.group.0 c.args.room c.parts.ensures.valid c.in_ok-engine.ensures c.in_ok-asked.ensures.setup c.in_ok-asked.ensures.group c.in_ok-asked.ensures.room c.in_ok-asked.ensures.opened few
