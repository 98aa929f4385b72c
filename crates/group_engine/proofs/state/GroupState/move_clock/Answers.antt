use Rattle.std.proofs.Common.{◌∷◌, ap, ◌∙◌}
use Rattle.rt_model.specs.Group.{tasks}
use Rattle.rt_model.specs.Past.{Clock}
use Rattle.group_core.specs.Words.{GroupAt}
use Rattle.group_core.specs.Facts.{WithRoom}
use Rattle.group_engine.specs.declared.state.GroupState.{GroupState}
use Rattle.group_engine.specs.inside.Touching.{CanUpdateAll}
use Rattle.group_engine.proofs.UpdateLaws.{core-brought}
use Rattle.group_engine.specs.Links.{links_in}
use Rattle.group_engine.proofs.LinksKept.{links-brought}
use Rattle.group_engine.proofs.ClockMoves.{armed-member, can-clocked, clock-ends, clocked_state}
use Rattle.group_engine.proofs.state.GroupState.move_clock.Goals as goal

pub move_clock-requires : goal.move_clock-requires
move_clock-requires c = let can = c.requires.1 in can.kept.core_fit.resvs_clock

pub update_due-requires : goal.update_due-requires
update_due-requires c =
    let at : GroupAt = c.requires.0 in
    let can = c.requires.1 in
    let all : CanUpdateAll at.group.setup (tasks at.group) (clocked_state c.args.tick.0 c.args.self.now) = can-clocked at.group at.past c.args.self.now can.kept c.args.tick.0 can.tick_low in (
      tasks at.group,
      rw (c.move_clock.ensures, can.parts_are) all,
      λ t tick h. armed-member at.group at.past c.args.self.now.timers can.kept.timers_are t tick h,
    )

pub end_move-requires : goal.end_move-requires
end_move-requires c =
    let s1 : GroupState = record c.args.self.now { core = c.move_clock.new.self } in
    let clocked = ap (λ (x : WithRoom). let s : GroupState = record c.args.self.now { core = x } in s) c.move_clock.ensures in
    let at : GroupAt = c.requires.0 in (
      record { group = at.group; past = Clock c.args.tick.0 ∷ at.past },
      clock-ends at c.args.tick.0 c.args.parts.now c.args.self.now s1 c.update_due.new.self c.update_due.ensures.0 c.requires.1 clocked c.update_due.ensures.1 c.update_due.ensures.2,
    )

pub returns-clause-moved : goal.returns-clause-moved
returns-clause-moved c = λ at can.
    let s1 : GroupState = record c.args.self.now { core = c.move_clock.new.self } in
    let clocked = ap (λ (x : WithRoom). let s : GroupState = record c.args.self.now { core = x } in s) c.move_clock.ensures in
    c.end_move.ensures.at (record { group = at.group; past = Clock c.args.tick.0 ∷ at.past })
    (clock-ends at c.args.tick.0 c.args.parts.now c.args.self.now s1 c.update_due.new.self c.update_due.ensures.0 can clocked c.update_due.ensures.1 c.update_due.ensures.2)

pub returns-clause-room : goal.returns-clause-room
returns-clause-room c =
    let s1 : GroupState = record c.args.self.now { core = c.move_clock.new.self } in
    c.end_move.ensures.room ∙ ap (λ (s : GroupState). s.core.room) c.update_due.ensures.2 ∙ ap (λ (x : WithRoom). x.room) (core-brought c.args.parts.now c.update_due.ensures.0 s1)
    ∙ ap (λ (x : WithRoom). x.room) c.move_clock.ensures

pub returns-clause-links : goal.returns-clause-links
returns-clause-links c = λ d h.
    let s1 : GroupState = record c.args.self.now { core = c.move_clock.new.self } in
    let still = c.end_move.ensures.links d h in
    (still.0, still.1 ∙ ap (λ (s : GroupState). links_in s.clusters d) c.update_due.ensures.2 ∙ links-brought c.args.parts.now c.update_due.ensures.0 s1 d)
