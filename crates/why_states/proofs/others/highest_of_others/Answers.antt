use Rattle.std.proofs.Common.{◌∙◌, ap}
use Rattle.rt_rules.specs.Numbers.{foremost}
use Rattle.rt_model.specs.Blockers.{has_higher_ceiling}
use Rattle.why_lines.specs.SemNos.{sem_numbers}
use Rattle.why_texts.specs.Standings.{highest_of_others}
use Rattle.why_states.specs.States.{IsAt, group_of}
use Rattle.why_states.proofs.others.highest_of_others.Goals as goal

pub foremost_of-requires : goal.foremost_of-requires
foremost_of-requires c = c.requires.1.tasks_are

pub returns : goal.returns
unfolding highest_of_others
returns c = λ past is plugin.
    c.foremost_of.ensures plugin ∙ ap (λ ss. foremost (has_higher_ceiling (group_of c.args.state.now)) (sem_numbers ss)) c.as_slice.ensures.value
    ∙ ap (foremost (has_higher_ceiling (group_of c.args.state.now))) (c.in_ok-held.ensures past is)
