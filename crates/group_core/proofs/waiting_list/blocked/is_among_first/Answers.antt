use Rattle.std.proofs.Common.{◌≤◌, length, arith, ap}
use Rattle.group_core.proofs.waiting_list.blocked.is_among_first.Goals as goal

pub overflow_add-above : goal.overflow_add-above
overflow_add-above c =
    let few : length c.args.parts.now.tasks ≤ 1024 = c.requires.ranks.limits.few_tasks in
    omega (arith, c.loop-other.auto.other-index-end, few, ap length c.as_slice-other-items.ensures, c.loop-other.invariant.1)
