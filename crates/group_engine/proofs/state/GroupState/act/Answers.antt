use Rattle.std.proofs.Common.{◌≡◌, ◌∷◌, sym, ap, ◌∙◌, subst, arith}
use Rattle.rt_base.specs.TaskNos.{number_of_task}
use Rattle.rt_model.specs.Outcomes.{past_act}
use Rattle.rt_model.specs.Past.{Acted}
use Rattle.group_core.specs.Words.{GroupAt}
use Rattle.group_core.specs.Facts.{WithRoom, looked_in}
use Rattle.group_core.specs.Looked.{looked}
use Rattle.group_engine.specs.declared.state.GroupState.{GroupState}
use Rattle.group_engine.specs.Ending.{IsEnding}
use Rattle.group_engine.specs.Moments.{CanActOn}
use Rattle.group_engine.specs.inside.Touching.{AreNumbered, all_updated, with_run}
use Rattle.group_engine.specs.Links.{links_in}
use Rattle.group_engine.proofs.LinksKept.{links-brought, links-with_run}
use Rattle.group_engine.proofs.ActMoves.{IsAnswered, can-follow, can-looks, core-can-act, core-may-act, ended-told, ending-act, is-plain, told-is}
use Rattle.group_engine.proofs.UpdateLaws.{core-brought}
use Rattle.group_engine.proofs.state.GroupState.act.Goals as goal
use Rattle.group_engine.proofs.state.GroupState.act.Goals.{After-act-answer, After-update_looked}

pub linked-link-requires : goal.linked-link-requires
linked-link-requires c = let on = c.requires.at.1 in (c.requires.at.0, on.can.kept, on.can.inside)

pub act-answer-requires-clause-act : goal.act-answer-requires-clause-act
act-answer-requires-clause-act c = let on = c.requires.at.1 in rw on.parts_are (core-can-act c.requires.at.0 c.args.cpu.0 c.args.act c.args.self.now on.can)

pub act-answer-requires-clause-plain : goal.act-answer-requires-clause-plain
act-answer-requires-clause-plain c = let on = c.requires.at.1 in rw on.parts_are (is-plain c.requires.at.0 c.args.cpu.0 c.args.act c.args.self.now on.can)

pub act-answer-requires-clause-sems : goal.act-answer-requires-clause-sems
act-answer-requires-clause-sems c = let on = c.requires.at.1 in rw on.parts_are (core-may-act c.requires.at.0 c.args.cpu.0 c.args.act c.args.self.now on.can)

answered : (c : After-act-answer) (at : GroupAt) → CanActOn at c.args.cpu.0 c.args.act c.args.parts.now c.args.self.now
    → IsAnswered at c.args.cpu.0 c.args.act c.args.self.now c.act-answer.result.reply c.act-answer.new.self
answered c at on = record {
  link = number_of_task c.linked-link.result;
  link_is = c.linked-link.ensures at on.can.kept on.can.inside;
  reply_is = rw on.parts_are at c.act-answer.ensures.reply;
  facts_are = rw on.parts_are at c.act-answer.ensures.acted;
}

looks-are : (c : After-act-answer) (at : GroupAt) → CanActOn at c.args.cpu.0 c.args.act c.args.parts.now c.args.self.now
    → looked at.group.setup c.act-answer.result.looks ≡ looked_in at.group.setup c.args.cpu.0 c.args.act c.act-answer.result.reply c.args.self.now.core.facts
looks-are c at on = rw on.parts_are at c.act-answer.ensures.looks

pub update_run-requires : goal.update_run-requires
update_run-requires c =
    let on = c.requires.at.1 in
    can-follow c.requires.at.0 c.args.cpu.0 c.args.act c.args.self.now on.can c.act-answer.result.reply c.act-answer.new.self
    (answered (goal.at.update_run-requires c).After-act-answer c.requires.at.0 on)

pub update_looked-requires : goal.update_looked-requires
update_looked-requires c =
    let at : GroupAt = c.requires.at.0 in
    let on = c.requires.at.1 in
    let done = (goal.at.update_looked-requires c).After-act-answer in
    let s1 : GroupState = record c.args.self.now { core = c.act-answer.new.self } in
    let can = can-looks at c.args.cpu.0 c.args.act c.args.self.now on.can c.act-answer.result.reply c.act-answer.new.self (answered done at on) in
    rw (c.update_run.ensures, on.parts_are)
    (subst (λ us. AreNumbered at.group.setup us (with_run c.args.cpu.0 c.args.act c.act-answer.result.reply s1)) (sym (looks-are done at on)) can)

-- the move is to be ended
ending : (c : After-update_looked) (at : GroupAt) → CanActOn at c.args.cpu.0 c.args.act c.args.parts.now c.args.self.now
    → IsAnswered at c.args.cpu.0 c.args.act c.args.self.now c.act-answer.result.reply c.act-answer.new.self
    → looked at.group.setup c.act-answer.result.looks ≡ looked_in at.group.setup c.args.cpu.0 c.args.act c.act-answer.result.reply c.args.self.now.core.facts
    → IsEnding at.group (Acted (past_act at.group c.args.cpu.0 c.args.act at.past) ∷ at.past) c.update_looked.new.self
ending c at on told looks =
    let s1 : GroupState = record c.args.self.now { core = c.act-answer.new.self } in
    let past = Acted (past_act at.group c.args.cpu.0 c.args.act at.past) ∷ at.past in
    rw (c.update_looked.ensures, c.update_run.ensures, on.parts_are)
    (subst (λ us. IsEnding at.group past (all_updated at.group.setup us (with_run c.args.cpu.0 c.args.act c.act-answer.result.reply s1))) (sym looks)
    (ending-act at c.args.cpu.0 c.args.act c.args.self.now on.can c.act-answer.result.reply c.act-answer.new.self told))

pub end_move-requires : goal.end_move-requires
end_move-requires c =
    let at : GroupAt = c.requires.at.0 in
    let on = c.requires.at.1 in
    let done = (goal.at.end_move-requires c).After-act-answer in (
      record { group = at.group; past = Acted (past_act at.group c.args.cpu.0 c.args.act at.past) ∷ at.past },
      record { played = on.can.played; ending = ending (goal.at.end_move-requires c).After-update_looked at on (answered done at on) (looks-are done at on); parts_are = on.parts_are },
    )

pub returns-clause-acted : goal.returns-clause-acted
returns-clause-acted c = λ at on.
    let done = (goal.at.returns-clause-acted c).After-act-answer in
    record {
      reply_is = told-is at c.args.cpu.0 c.args.act c.args.self.now on.can c.act-answer.result.reply c.act-answer.new.self (answered done at on);
      ended_is =
          (rw on.parts_are at c.act-answer.ensures.ended)
          ∙ ended-told at c.args.cpu.0 c.args.act c.args.self.now on.can c.act-answer.result.reply c.act-answer.new.self (answered done at on);
      kept = c.end_move.ensures.at (record { group = at.group; past = Acted (past_act at.group c.args.cpu.0 c.args.act at.past) ∷ at.past })
          (record { played = on.can.played; ending = ending (goal.at.returns-clause-acted c).After-update_looked at on (answered done at on) (looks-are done at on); parts_are = on.parts_are });
    }

pub returns-clause-room : goal.returns-clause-room
returns-clause-room c =
    let same =
    c.end_move.ensures.room ∙ ap (λ (s : GroupState). s.core.room) c.update_looked.ensures
    ∙ ap (λ (x : WithRoom). x.room) (core-brought c.args.parts.now (looked c.args.parts.now c.act-answer.result.looks) c.update_run.new.self) ∙ ap (λ (s : GroupState). s.core.room) c.update_run.ensures in
    omega (arith, same, c.act-answer.ensures.room)

pub returns-clause-links : goal.returns-clause-links
returns-clause-links c = λ d h.
    let still = c.end_move.ensures.links d h in (
      still.0,
      still.1 ∙ ap (λ (s : GroupState). links_in s.clusters d) c.update_looked.ensures
          ∙ links-brought c.args.parts.now (looked c.args.parts.now c.act-answer.result.looks) c.update_run.new.self d
          ∙ ap (λ (s : GroupState). links_in s.clusters d) c.update_run.ensures
          ∙ links-with_run c.args.cpu.0 c.args.act c.act-answer.result.reply _ c.args.self.now.clusters d,
    )
