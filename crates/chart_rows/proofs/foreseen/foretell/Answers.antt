use Rattle.std.proofs.Common.{◌∙◌, ap, refl, subst, sym}
use Rattle.rt_base.specs.TaskNos.{number_of_task}
use Rattle.rt_task.specs.Validity.{IsValid}
use Rattle.rt_model.specs.Outcomes.{past_act}
use Rattle.rt_laws.proofs.jobs.Running.{running}
use Rattle.rt_laws.proofs.ValidSets.{rules_of}
use Rattle.rank_afresh.specs.Standing.{group_of}
use Rattle.chart_rows.specs.Foretold.{moment_of}
use Rattle.chart_rows.proofs.Foretelling.{idle-none, other-none}
use Rattle.chart_rows.proofs.foreseen.foretell.Goals as goal

pub returns-then-not-asks_work : goal.returns-then-not-asks_work
returns-then-not-asks_work c = λ past at. other-none (group_of c.args.afresh.now) c.args.cpu.0 c.args.act past (sym c.asks_work.ensures ∙ c.if-not-asks_work.true)

pub unit_of-requires-clause-task : goal.unit_of-requires-clause-task
unit_of-requires-clause-task c =
    let g = group_of c.args.afresh.now in
    let past = c.requires.at.0 in
    let at = c.requires.at.1 in
    (running g (rules_of g (subst IsValid c.requires.parts c.requires.valid)) at.core_at.reachable c.args.cpu.0 c.in-Some.task.0 (sym (c.runs.ensures past at) ∙ ap number_of_task c.in-Some.is)).member

pub returns-in_ok-unit-in-Some : goal.returns-in_ok-unit-in-Some
unfolding past_act
returns-in_ok-unit-in-Some c = λ past at unit.
    c.in_ok-unit-in-Some.ensures (moment_of (group_of c.args.afresh.now) c.args.cpu.0 c.args.act past) at refl (sym (c.runs.ensures past at) ∙ ap number_of_task c.in-Some.is) unit

pub returns-in-None : goal.returns-in-None
returns-in-None c = λ past at. idle-none (group_of c.args.afresh.now) c.args.cpu.0 c.args.act past (sym (c.runs.ensures past at) ∙ ap number_of_task c.in-None.is)
