use Rattle.std.proofs.Common.{sym, ◌∙◌}
use Rattle.group_sems.proofs.GroupSems.unlock.Goals as goal

pub serve-requires-clause-task : goal.serve-requires-clause-task
serve-requires-clause-task c u is =
    let can = rw (← c.self.view_is) at c.requires.served in
    rw c.drop_boost.ensures (can u (rw c.release.ensures.after at (sym c.granted-served.ensures ∙ is)))
