use Rattle.std.proofs.Common.{length, ap, subst, ◌∙◌, arith}
use Rattle.rt_task.specs.declared.Parts.{Parts}
use Rattle.rt_model.specs.Histories.{reply_to}
use Rattle.rt_plays.specs.Groups.{GroupHistory, group_of, past}
use Rattle.rt_plays.specs.Plays.{group_with}
use Rattle.group_core.specs.Words.{AreWaitersAt}
use Rattle.resv_core.proofs.TableLaws.{tables_are_followed}
use Rattle.rt_laws.proofs.semaphores.SemaphoreLaws.{histories_are_made}
use Rattle.rt_laws.proofs.srp.SrpOnce.{stack_is_followed}
use Rattle.group_engine.specs.Moments.{between}
use Rattle.group_engine.specs.Sound.{IsMoved}
use Rattle.group_engine.proofs.Stepping.{at_tick, can_act, can_move, has_moved, stepped}
use Rattle.group_engine.proofs.engine.Engine.step_listing.Goals as goal
use Rattle.group_engine.proofs.engine.Engine.step_listing.Goals.{After-move_clock}

pub move_clock-requires : goal.move_clock-requires
move_clock-requires c = can_move _ _ c.self.view_is _ _ c.self.invariant.sound _ c.requires.step _ c.parts-parts.ensures.parts

-- the clock has moved to the step's tick
moved : (c : After-move_clock) → IsMoved (record { group = group_with c.self.inside.setup c.self.inside.group.0; room = c.self.inside.room }) c.args.step c.parts-parts.result.now c.self.inside.entries.items c.move_clock.new.self
moved c = has_moved _ _ c.self.view_is _ _ c.self.invariant.sound _ c.requires.step _ c.parts-parts.ensures.parts _ (omega (arith, c.self.invariant.taken_is)) c.requires.room c.move_clock.ensures.moved c.move_clock.ensures.room

pub list_waiting-requires-clause-at : goal.list_waiting-requires-clause-at
list_waiting-requires-clause-at c = let m = moved (goal.at.list_waiting-requires-clause-at c).After-move_clock in (at_tick _ _ _ _ _ m, can_act _ _ _ _ _ m)

pub list_waiting-requires-clause-room : goal.list_waiting-requires-clause-room
list_waiting-requires-clause-room c =
    omega (arith, c.requires.list, ap (λ (h : GroupHistory). length h.setup.tasks) c.self.view_is, ap (λ (p : Parts). length p.tasks) c.parts-parts.ensures.parts)

pub take_act-answer-requires : goal.take_act-answer-requires
take_act-answer-requires c = (_, moved (goal.at.take_act-answer-requires c).After-move_clock)

pub invariant_of-self : goal.invariant_of-self
invariant_of-self c =
    let act = c.take_act-answer.ensures in
    stepped _ _ _ _ (moved (goal.at.invariant_of-self c).After-move_clock) c.self.invariant.sound act.sound act.ended act.entry c.move_clock.ensures.links act.links c.self.invariant.taken_is

pub returns-clause-reply : goal.returns-clause-reply
returns-clause-reply c = c.take_act-answer.ensures.reply _ (moved (goal.at.returns-clause-reply c).After-move_clock) ∙ ap (λ (h : GroupHistory). reply_to (group_of h) c.args.step (past h)) c.self.view_is

pub returns-clause-legal : goal.returns-clause-legal
returns-clause-legal c = (c.take_act-answer.ensures.sound _ (moved (goal.at.returns-clause-legal c).After-move_clock)).legal

pub returns-clause-waiting : goal.returns-clause-waiting
returns-clause-waiting c =
    let m = moved (goal.at.returns-clause-waiting c).After-move_clock in
    subst (λ (h : GroupHistory). AreWaitersAt (between h c.args.step) c.args.step.cpu.0 c.args.step.act c.list_waiting.new.list.waiting) c.self.view_is
    (c.list_waiting.ensures.waiting (at_tick _ _ _ _ _ m) (can_act _ _ _ _ _ m))

pub returns-clause-stack : goal.returns-clause-stack
returns-clause-stack c = stack_is_followed _ _ c.parts-parts.ensures.valid (histories_are_made _ _)

pub returns-clause-tables : goal.returns-clause-tables
returns-clause-tables c = tables_are_followed _ _ c.parts-parts.ensures.valid (histories_are_made _ _)
