use Rattle.std.proofs.Common.{◌≡◌, ◌<◌, ◌≤◌, ℕ, true, List, length, get_or, refl, sym, ap, ◌∙◌, subst, arith}
use Rattle.rt_base.specs.TaskNos.{numbers}
use Rattle.rt_base.specs.declared.TaskNo.{TaskNo}
use Rattle.rt_base.specs.declared.TheConstants.{MOST_STEPS}
use Rattle.rt_rules.specs.Numbers.{has}
use Rattle.group_core.specs.Reads.{CanRead}
use Rattle.rank_afresh.specs.Facts.{WithRoom}
use Rattle.rank_afresh.specs.Ranks.{AreTasks}
use Rattle.rank_afresh.proofs.Moving.{task-of}
use Rattle.rank_afresh.proofs.SetLists.{has-at}
use Rattle.rank_afresh.proofs.facts.Facts.keep_moments.Goals as goal
use Rattle.rank_afresh.proofs.facts.Facts.keep_moments.Goals.{After-index-task}

-- the task is of the set
range : (c : After-index-task) → (1 ≤ c.index-task.result.now.0) × (c.index-task.result.now.0 ≤ length c.args.parts.now.tasks)
range c =
    let us : List TaskNo = c.self.inside.looked.items in
    let i : ℕ = c.loop-i.i in
    let t : TaskNo = c.index-task.result.now in
    let looked : AreTasks c.args.parts.now (numbers us) = subst (λ (w : WithRoom). AreTasks c.args.parts.now w.facts.looked) (sym c.self.view_is) c.requires.looked in
    let same : get_or c.loop-i.self-inside.looked.items i t ≡ get_or us i t = rw c.loop-i.invariant.looked refl in
    let position : t ≡ get_or us i t = c.index-task.ensures ∙ same in
    let inside : i < length us = omega (arith, c.loop-i-test.true, c.len-i-end.ensures, c.self.inside.looked.ok.0) in
    looked t.0 (subst (λ (u : TaskNo). has u.0 (numbers us) ≡ true) (sym position) (has-at us i t inside))

pub timer-moment-requires : goal.timer-moment-requires
timer-moment-requires c =
    let read : CanRead MOST_STEPS c.args.parts.now c.self.inside.core.facts.kept = subst (λ (w : WithRoom). CanRead MOST_STEPS c.args.parts.now w.facts.kept) (sym c.self.view_is) c.requires.read in
    rw c.loop-i.invariant.core (task-of c.args.parts.now c.self.inside.core.facts.kept c.index-task.result.now.0 read (range (goal.at.timer-moment-requires c).After-index-task))

pub put-requires : goal.put-requires
put-requires c =
    let r = range (goal.at.put-requires c).After-index-task in
    let all = ap (λ (w : WithRoom). length w.facts.moments) c.self.view_is in
    omega (arith, r.1, all, c.loop-i.invariant.count, c.requires.moments)

pub invariant_of-self : goal.invariant_of-self
invariant_of-self c = rw (c.loop-i.invariant.looked, c.loop-i.invariant.clusters, c.loop-i.invariant.visits, c.loop-i.invariant.count) c.self.invariant
