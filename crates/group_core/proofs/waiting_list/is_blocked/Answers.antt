use Rattle.std.proofs.Common.{◌≡◌, ℕ, Bool, true, false, ◌&&◌, sym, ap, ◌∙◌, subst}
use Rattle.std.specs.Prelude.{is_some}
use Rattle.rt_task.specs.declared.Parts.{Parts}
use Rattle.rt_model.specs.Blocking.{is_blocked}
use Rattle.rt_model.specs.Group.{Group}
use Rattle.group_jobs.specs.Kept.{Kept}
use Rattle.sem_table.specs.Told.{awaits_of}
use Rattle.group_sems.specs.GroupSems.{GroupSems}
use Rattle.group_sems.proofs.Reading.{holding_is_read}
use Rattle.group_core.specs.inside.Blocked.{CanRankTask, is_among_first}
use Rattle.group_core.specs.Listing.{CanAsk, GroupAt}
use Rattle.group_core.proofs.WaiterLimits.{can-rank-task}
use Rattle.group_core.proofs.ReadingBlocked.{blocked-as}
use Rattle.group_core.proofs.waiting_list.is_blocked.Goals as goal

pub is_among_first-requires : goal.is_among_first-requires
is_among_first-requires c =
    let at = c.requires.0 in
    let can = c.requires.1 in
    subst (λ (p : Parts). CanRankTask p c.args.jobs.now.kept c.args.task.0) (sym can.parts_are)
    (can-rank-task at.group can.valid at.past c.args.jobs.now.kept can.jobs_are can.few can.clock_low c.args.task.0 can.member)

-- what is read off the semaphores and the jobs is what the definitions give
blocked-there : (at : GroupAt) (p : Parts) (k : Kept) (v : GroupSems) (t : ℕ) → CanAsk at p k v t → (waits : Bool) → waits ≡ is_some (awaits_of v.table t)
    → waits && is_among_first p k t ≡ is_blocked at.group t at.past
blocked-there at p k v t can waits read =
    ap (λ (x : Parts). waits && is_among_first x k t) can.parts_are
    ∙ blocked-as at.group at.past can.valid k can.jobs_are t can.member waits (read ∙ (holding_is_read at.group at.past can.valid can.reachable v t can.member can.sems_are.locks).1)

pub returns-then-waits : goal.returns-then-waits
returns-then-waits c = λ at can.
    c.is_among_first.ensures ∙ ap (λ b. b && is_among_first c.args.parts.now c.args.jobs.now.kept c.args.task.0) (sym c.if-waits.true)
    ∙ blocked-there at c.args.parts.now c.args.jobs.now.kept c.args.sems.now c.args.task.0 can c.waits.result c.waits.ensures

pub returns-else-waits : goal.returns-else-waits
returns-else-waits c = λ at can.
    c.if-waits.false ∙ ap (λ b. b && is_among_first c.args.parts.now c.args.jobs.now.kept c.args.task.0) (sym c.if-waits.false)
    ∙ blocked-there at c.args.parts.now c.args.jobs.now.kept c.args.sems.now c.args.task.0 can c.waits.result c.waits.ensures
