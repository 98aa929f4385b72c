use Rattle.std.proofs.Common.{◌≡◌, ◌∙◌, ◌∷◌, ℕ, false, true, List, ap, get_or, map, refl, subst, sym, All}
use Rattle.std.specs.Prelude.{Option}
use Rattle.rt_base.specs.TaskNos.{number_of_task}
use Rattle.rt_rules.specs.Distinct.{IsDistinct}
use Rattle.rt_rules.specs.Numbers.{has, is}
use Rattle.rt_model.specs.Group.{Group, tasks}
use Rattle.rt_model.specs.Past.{Acted, Past, PastAct}
use Rattle.rt_model.specs.Reachable.{IsReachable}
use Rattle.rt_changes.specs.Touched.{arriving}
use Rattle.rank_afresh.specs.Standing.{group_of}
use Rattle.view_acts.specs.ShownActs.{act_shown}
use Rattle.chart_rows.specs.Listed.{tasks_listed}
use Rattle.chart_rows.specs.Rows.{TaskKept, task_seen}
use Rattle.chart_rows.specs.UpTo.{IsUpTo, touches}
use Rattle.chart_rows.specs.inside.Finding.{only}
use Rattle.chart_rows.proofs.OneRow.{Stays, only-both, only-one, only-still, only-tasks}
use Rattle.chart_rows.proofs.UpTo.{row-untouched}
use Rattle.chart_rows.proofs.seeing.see_tasks_after.Goals as goal

-- the rows of tasks that the act does not touch stay
stay : (g : Group) (d : PastAct) (past : Past) (b : Option ℕ) (ks : List TaskKept) → b ≡ arriving d.act → IsReachable g (Acted d ∷ past) → All (IsUpTo g past) ks → All (Stays (task_seen g (Acted d ∷ past)) d.task b) ks
stay g d past b ks arrives made up j e low = λ other apart.
    let k : TaskKept = get_or ks j e in
    let none : touches d k.task ≡ false = rw (other, ap (is k.task) (sym arrives) ∙ apart) refl in
    sym (row-untouched g d past k made (up j e low) none)

pub see_row-requires-2-clause-tasks : goal.see_row-requires-2-clause-tasks
see_row-requires-2-clause-tasks c =
    let g = group_of c.args.afresh.now in
    let f = task_seen g (Acted (act_shown c.args.act.now) ∷ c.requires.at.0) in
    let a = number_of_task c.args.act.now.task in
    subst (λ (ks : List TaskKept). All (λ (k : TaskKept). has k.task (tasks g) ≡ true) ks) (sym (c.in_ok-see_row.ensures _ c.requires.at.1))
    (only-still f a (λ t. has t (tasks g) ≡ true) (λ k. refl) c.args.tasks.now c.requires.tasks)

pub see_row-requires-2-clause-once : goal.see_row-requires-2-clause-once
see_row-requires-2-clause-once c =
    let f = task_seen (group_of c.args.afresh.now) (Acted (act_shown c.args.act.now) ∷ c.requires.at.0) in
    let a = number_of_task c.args.act.now.task in
    subst IsDistinct (sym (ap tasks_listed (c.in_ok-see_row.ensures _ c.requires.at.1) ∙ only-tasks f a a (λ k. refl) c.args.tasks.now)) c.requires.once

pub returns : goal.returns
returns c = λ past at up.
    let g = group_of c.args.afresh.now in
    let d = act_shown c.args.act.now in
    let f = task_seen g (Acted d ∷ past) in
    let b = number_of_task c.arriving-arrives.result in
    let first : c.see_row.new.tasks ≡ map (only d.task f) c.args.tasks.now = c.in_ok-see_row.ensures _ at in
    c.in_ok-see_row-2.ensures _ at ∙ ap (map (only b f)) first
    ∙ only-both f d.task b (λ same. c.are_same.ensures.apart c.if-are_same.false (sym same)) (λ k. refl) c.args.tasks.now (stay g d past b c.args.tasks.now c.arriving-arrives.ensures at.core_at.reachable up)

pub returns-then-are_same : goal.returns-then-are_same
returns-then-are_same c = λ past at up.
    let g = group_of c.args.afresh.now in
    let d = act_shown c.args.act.now in
    let b = number_of_task c.arriving-arrives.result in
    c.in_ok-see_row.ensures _ at
    ∙ only-one (task_seen g (Acted d ∷ past)) d.task b (c.are_same.ensures.same c.if-are_same.true) c.args.tasks.now (stay g d past b c.args.tasks.now c.arriving-arrives.ensures at.core_at.reachable up)
