use Rattle.std.proofs.Common.{ap, ◌∙◌, subst}
use Rattle.rt_task.specs.declared.Parts.{Parts}
use Rattle.rt_plays.specs.Drives.{steps_given}
use Rattle.trace_course.specs.Courses.{IsOnCourse}
use Rattle.trace_course.proofs.Courses.{scripts-left, scripts-over, scripts-passed, turns-left, turns-over}
use Rattle.trace_course.proofs.course.Course.is_over.Goals as goal

pub returns-in-Scripts-clause-over : goal.returns-in-Scripts-clause-over
returns-in-Scripts-clause-over c = λ at given yes.
    let p = c.args.setup.now in
    let on = subst (IsOnCourse at p) c.in-Scripts.is given in
    let steps = c.steps_given.ensures ∙ ap (λ (q : Parts). steps_given q.drive) c.parts.ensures.parts in
    scripts-over at p c.in-Scripts.scripts on (c.are_over.ensures.over at (scripts-passed at p c.in-Scripts.scripts on c.steps_given.result.now steps) yes)

pub returns-in-Scripts-clause-not_over : goal.returns-in-Scripts-clause-not_over
returns-in-Scripts-clause-not_over c = λ at given no.
    let p = c.args.setup.now in
    let on = subst (IsOnCourse at p) c.in-Scripts.is given in
    let steps = c.steps_given.ensures ∙ ap (λ (q : Parts). steps_given q.drive) c.parts.ensures.parts in
    scripts-left at p c.in-Scripts.scripts on (c.are_over.ensures.not_over at (scripts-passed at p c.in-Scripts.scripts on c.steps_given.result.now steps) no)

pub returns-in-Turns-clause-over : goal.returns-in-Turns-clause-over
returns-in-Turns-clause-over c = λ at given yes.
    let on = subst (IsOnCourse at c.args.setup.now) c.in-Turns.is given in
    turns-over at c.args.setup.now c.in-Turns.turns on (c.have_ended.ensures.ended at.group _ on.course_is.1 yes)

pub returns-in-Turns-clause-not_over : goal.returns-in-Turns-clause-not_over
returns-in-Turns-clause-not_over c = λ at given no.
    let on = subst (IsOnCourse at c.args.setup.now) c.in-Turns.is given in
    turns-left at c.args.setup.now c.in-Turns.turns on (c.have_ended.ensures.left at.group _ on.course_is.1 no)
