use Rattle.std.proofs.Common.{List, subst}
use Rattle.std.specs.Prelude.{All}
use Rattle.std.proofs.lemmas.List.Elements.{All-tail}
use Rattle.rt_task.specs.declared.Step.{Step}
use Rattle.rt_rules.specs.declared.history.Entry.{Entry}
use Rattle.rt_model.specs.Steps.{IsStepOf}
use Rattle.rt_plays.specs.Groups.{AreStepsOf, group_of}
use Rattle.set_plays.proofs.steps_left.StepsLeft.next.Goals as goal

pub returns-in_ok-first-in-Given-clause-of : goal.returns-in_ok-first-in-Given-clause-of
returns-in_ok-first-in-Given-clause-of c =
    let all = rw c.in-Given.is at c.requires.of in
    All-tail (IsStepOf (group_of c.args.engine.now)) c.in_ok-first-in-Given.first.now c.in_ok-first-in-Given.rest.now
    (subst (λ (ss : List Step). All (IsStepOf (group_of c.args.engine.now)) ss) c.in_ok-first-in-Given.ensures.cases.0 all)

pub returns-in_ok-first-in-Again-clause-of : goal.returns-in_ok-first-in-Again-clause-of
returns-in_ok-first-in-Again-clause-of c =
    let all = rw c.in-Again.is at c.requires.of in
    All-tail (λ (e : Entry). IsStepOf (group_of c.args.engine.now) e.step) c.in_ok-first-in-Again.first.now c.in_ok-first-in-Again.rest.now
    (subst (AreStepsOf (group_of c.args.engine.now)) c.in_ok-first-in-Again.ensures.cases.0 all)
