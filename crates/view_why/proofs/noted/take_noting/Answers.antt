use Rattle.std.proofs.Common.{◌∙◌, ◌∷◌, sym, ap, subst}
use Rattle.std.specs.Prelude.{All}
use Rattle.rt_base.specs.declared.CpuNo.{CpuNo}
use Rattle.rt_model.specs.Group.{Group}
use Rattle.rt_model.specs.Histories.{after, clock_moved}
use Rattle.rt_model.specs.Outcomes.{past_act}
use Rattle.rt_model.specs.Past.{Clock}
use Rattle.rt_model.specs.Reachable.{IsReachable}
use Rattle.rt_model.specs.Steps.{IsStepOf}
use Rattle.rt_plays.specs.Homes.{IsProcessorOf}
use Rattle.trace_text.specs.Groups.{cpu_numbers}
use Rattle.trace_text.specs.TraceText.{links_at}
use Rattle.trace_text.proofs.ReplayLaws.{cpus_there}
use Rattle.view_replay.specs.Replays as replays
use Rattle.why_texts.specs.StateText.{state_text}
use Rattle.view_why.specs.inside.Groups.{group_of}
use Rattle.view_why.proofs.noted.take_noting.Goals as goal

pub read_links-requires : goal.read_links-requires
read_links-requires c =
    subst (λ (g : Group). All (λ (q : CpuNo). IsProcessorOf g q.0) c.as_slice.result.now) (sym (c.afresh.ensures.group ∙ c.requires.group))
    (cpus_there (group_of c.args.members.now) c.as_slice.result.now (ap cpu_numbers c.as_slice.ensures.value ∙ c.requires.members.cpus_are))

pub state_of-requires-clause-group : goal.state_of-requires-clause-group
state_of-requires-clause-group c = c.clock.ensures.group ∙ c.requires.group

pub lines_of_state-requires : goal.lines_of_state-requires
lines_of_state-requires c = (Clock c.args.step.tick.0 ∷ c.requires.at.0, c.state_of.ensures.moved c.requires.at.0 c.args.step.tick.0 (c.clock.ensures.moved c.requires.at.0 c.requires.at.1))

pub act-act-requires-clause-step : goal.act-act-requires-clause-step
act-act-requires-clause-step c = subst (λ (g : Group). IsStepOf g c.args.step) (sym (c.clock.ensures.group ∙ c.requires.group)) c.requires.step

pub returns-clause-noted : goal.returns-clause-noted
returns-clause-noted c = λ past is.
    let g = group_of c.args.members.now in
    let moved = c.clock.ensures.moved past is in
    let same = c.clock.ensures.group ∙ c.requires.group in
    record {
      links_are = c.in_ok-links.ensures past (c.afresh.ensures.at past is) ∙ ap (λ (x : Group). links_at x past (cpu_numbers c.as_slice.result.now)) (c.afresh.ensures.group ∙ c.requires.group) ∙ ap (λ ns. links_at g past ns) (ap cpu_numbers c.as_slice.ensures.value ∙ c.requires.members.cpus_are);
      made = subst (λ (x : Group). IsReachable x (clock_moved c.args.step past)) same moved.ranked.core_at.reachable;
      between_is = c.in_ok-between.ensures (clock_moved c.args.step past) (c.state_of.ensures.moved past c.args.step.tick.0 moved) ∙ ap (λ (x : Group). state_text x (clock_moved c.args.step past)) c.state_of.ensures.group;
      act_is = c.act-act.ensures.act past moved ∙ ap (λ (x : Group). past_act x c.args.step.cpu.0 c.args.step.act (clock_moved c.args.step past)) same;
    }

pub returns-clause-at : goal.returns-clause-at
returns-clause-at c = λ past is. subst (λ (x : Group). replays.IsAt c.act-act.new.self (after x c.args.step past)) (c.clock.ensures.group ∙ c.requires.group) (c.act-act.ensures.at past (c.clock.ensures.moved past is))
