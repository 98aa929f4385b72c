use Rattle.std.proofs.Common.{sym, ap, ◌∙◌, subst}
use Rattle.std.specs.Prelude.{All}
use Rattle.rt_base.specs.declared.CpuNo.{CpuNo}
use Rattle.rt_model.specs.Group.{Group}
use Rattle.rt_model.specs.Histories.{after, past_of}
use Rattle.rt_plays.specs.Homes.{IsProcessorOf}
use Rattle.rank_afresh.specs.Standing.{IsAt}
use Rattle.trace_course.specs.Courses.{HasGone, IsCourse}
use Rattle.trace_course.specs.Followed.{longer}
use Rattle.trace_course.proofs.Courses.{cpus-there, looked-all}
use Rattle.trace_course.proofs.course.Course.look.Goals as goal

pub look_at-requires-clause-cpus : goal.look_at-requires-clause-cpus
look_at-requires-clause-cpus c =
    let can = c.requires.2 in
    subst (λ (g : Group). All (λ (q : CpuNo). IsProcessorOf g q.0) c.args.cpus.now) (sym can.group_is) (cpus-there c.requires.0.group c.args.cpus.now can.cpus_are)

pub look_at-requires-clause-setup : goal.look_at-requires-clause-setup
look_at-requires-clause-setup c = c.requires.2.setup_is ∙ ap (λ (g : Group). g.setup) (sym c.requires.2.group_is)

pub returns-in-Scripts : goal.returns-in-Scripts
returns-in-Scripts c = λ at step can gone.
    let here = subst (HasGone at step) c.in-Scripts.is gone in
    subst (IsCourse at.group (longer at step)) (sym c.in-Scripts.is) here.gone

pub returns-in-Turns : goal.returns-in-Turns
returns-in-Turns c = λ at step can gone.
    let past = past_of at.group at.entries in
    let stands = subst (λ (g : Group). IsAt c.args.afresh.now (after g step past)) (sym can.group_is) can.stands in
    looked-all at step c.args.setup.now c.args.afresh.now c.args.cpus.now c.in-Turns.turns c.look_at.new.turns can (subst (HasGone at step) c.in-Turns.is gone)
    (λ first. c.look_at.ensures past step stands first)
