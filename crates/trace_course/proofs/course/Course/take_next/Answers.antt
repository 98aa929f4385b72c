use Rattle.std.proofs.Common.{ap, ◌∙◌, subst}
use Rattle.rt_task.specs.declared.Parts.{Parts}
use Rattle.rt_model.specs.Histories.{past_of}
use Rattle.rt_plays.specs.Drives.{steps_given}
use Rattle.trace_course.specs.Courses.{CanTake}
use Rattle.trace_course.proofs.Courses.{scripts-gone, scripts-next, scripts-passed, turns-at, turns-gone, turns-next}
use Rattle.trace_course.proofs.course.Course.take_next.Goals as goal

pub returns-in-Scripts-clause-taken : goal.returns-in-Scripts-clause-taken
returns-in-Scripts-clause-taken c = λ at step given is.
    let p = c.args.setup.now in
    let on = (subst (CanTake at p c.args.afresh.now) c.in-Scripts.is given).on_course in
    let steps = c.steps_given.ensures ∙ ap (λ (q : Parts). steps_given q.drive) c.parts.ensures.parts in
    scripts-gone at p c.in-Scripts.scripts on step c.take_next.new.self
    (c.take_next.ensures.taken at step (scripts-passed at p c.in-Scripts.scripts on c.steps_given.result.now steps) is)

pub returns-in-Scripts-clause-next : goal.returns-in-Scripts-clause-next
returns-in-Scripts-clause-next c = λ at step given next own tick.
    let p = c.args.setup.now in
    let on = (subst (CanTake at p c.args.afresh.now) c.in-Scripts.is given).on_course in
    let steps = c.steps_given.ensures ∙ ap (λ (q : Parts). steps_given q.drive) c.parts.ensures.parts in
    c.take_next.ensures.next at step (scripts-passed at p c.in-Scripts.scripts on c.steps_given.result.now steps) (scripts-next at p c.in-Scripts.scripts on step next) own

pub returns-in-Turns-clause-taken : goal.returns-in-Turns-clause-taken
returns-in-Turns-clause-taken c = λ at step given is.
    let p = c.args.setup.now in
    let can = subst (CanTake at p c.args.afresh.now) c.in-Turns.is given in
    let here = turns-at at p c.in-Turns.turns can.on_course c.args.afresh.now can.group_is in
    turns-gone at p c.in-Turns.turns can.on_course c.args.afresh.now can.group_is step c.take_next-in-Turns.new.turns
    (c.take_next-in-Turns.ensures.taken (past_of at.group at.entries) step can.stands here is)

pub returns-in-Turns-clause-next : goal.returns-in-Turns-clause-next
returns-in-Turns-clause-next c = λ at step given next own tick.
    let p = c.args.setup.now in
    let can = subst (CanTake at p c.args.afresh.now) c.in-Turns.is given in
    let here = turns-at at p c.in-Turns.turns can.on_course c.args.afresh.now can.group_is in
    let comes = turns-next at p c.in-Turns.turns can.on_course c.args.afresh.now can.group_is step next in
    c.take_next-in-Turns.ensures.next (past_of at.group at.entries) step can.stands here comes.0 comes.1 own tick
