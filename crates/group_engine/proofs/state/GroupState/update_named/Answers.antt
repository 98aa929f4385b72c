use Rattle.std.proofs.Common.{[], ◌∷◌, sym, ◌∙◌}
use Rattle.rt_base.specs.TaskNos.{number_of_task}
use Rattle.rt_rules.specs.Placing.{tasks_in}
use Rattle.group_engine.specs.inside.Touching.{CanUpdateAll}
use Rattle.group_engine.proofs.Looked.{brought-first, can-first, can-rest}
use Rattle.group_engine.proofs.state.GroupState.update_named.Goals as goal
use Rattle.group_engine.proofs.state.GroupState.update_named.Goals.{After-update_any, After-update_any-2}

pub update_any-requires : goal.update_any-requires
update_any-requires c =
    let l = c.args.looks in
    can-first c.args.parts.now (number_of_task l.task) (number_of_task l.before ∷ number_of_task l.after ∷ number_of_task l.served ∷ []) c.args.self.now c.requires

-- once the first was looked at
after-one : (c : After-update_any)
    → CanUpdateAll c.args.parts.now (tasks_in (number_of_task c.args.looks.before ∷ number_of_task c.args.looks.after ∷ number_of_task c.args.looks.served ∷ [])) c.update_any.new.self
after-one c =
    let l = c.args.looks in
    rw c.update_any.ensures
    (can-rest c.args.parts.now (number_of_task l.task) (number_of_task l.before ∷ number_of_task l.after ∷ number_of_task l.served ∷ []) c.args.self.now c.requires)

pub update_any-requires-2 : goal.update_any-requires-2
update_any-requires-2 c =
    let l = c.args.looks in
    can-first c.args.parts.now (number_of_task l.before) (number_of_task l.after ∷ number_of_task l.served ∷ []) c.update_any.new.self
    (after-one (goal.at.update_any-requires-2 c).After-update_any)

after-two : (c : After-update_any-2)
    → CanUpdateAll c.args.parts.now (tasks_in (number_of_task c.args.looks.before ∷ number_of_task c.args.looks.after ∷ number_of_task c.args.looks.served ∷ [])) c.update_any.new.self
    → CanUpdateAll c.args.parts.now (tasks_in (number_of_task c.args.looks.after ∷ number_of_task c.args.looks.served ∷ [])) c.update_any-2.new.self
after-two c can =
    let l = c.args.looks in
    rw c.update_any-2.ensures
    (can-rest c.args.parts.now (number_of_task l.before) (number_of_task l.after ∷ number_of_task l.served ∷ []) c.update_any.new.self can)

pub update_any-requires-3 : goal.update_any-requires-3
update_any-requires-3 c =
    let l = c.args.looks in
    can-first c.args.parts.now (number_of_task l.after) (number_of_task l.served ∷ []) c.update_any-2.new.self (after-two (goal.at.update_any-requires-3 c).After-update_any-2 (after-one (goal.at.update_any-requires-3 c).After-update_any))

pub update_any-requires-4 : goal.update_any-requires-4
update_any-requires-4 c =
    let l = c.args.looks in
    rw c.update_any-3.ensures
    (can-rest c.args.parts.now (number_of_task l.after) (number_of_task l.served ∷ []) c.update_any-2.new.self (after-two (goal.at.update_any-requires-4 c).After-update_any-2 (after-one (goal.at.update_any-requires-4 c).After-update_any)))

pub returns : goal.returns
returns c =
    let l = c.args.looks in
    rw (c.update_any-4.ensures, c.update_any-3.ensures, c.update_any-2.ensures, c.update_any.ensures)
    (sym (brought-first c.args.parts.now (number_of_task l.task) (number_of_task l.before ∷ number_of_task l.after ∷ number_of_task l.served ∷ []) c.args.self.now
    ∙ brought-first c.args.parts.now (number_of_task l.before) (number_of_task l.after ∷ number_of_task l.served ∷ []) _
    ∙ brought-first c.args.parts.now (number_of_task l.after) (number_of_task l.served ∷ []) _))
