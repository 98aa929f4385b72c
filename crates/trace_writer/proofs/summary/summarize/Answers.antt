use Rattle.std.proofs.Common.{ap, sym, ◌∙◌, subst}
use Rattle.set_plays.specs.GroupSteps.{AreGroupSteps, told}
use Rattle.trace_writer.proofs.summary.summarize.Goals as goal

pub summarize_groups-requires : goal.summarize_groups-requires
summarize_groups-requires g c = subst (AreGroupSteps c.args.setup.now) (sym c.as_slice.ensures.value) c.in_ok-groups.ensures.steps

pub returns-clause-summary : goal.returns-clause-summary
returns-clause-summary g c = rw (ap (told c.args.setup.now) c.as_slice.ensures.value ∙ c.in_ok-groups.ensures.told) at c.summarize_groups.ensures.summary

pub returns-clause-shown : goal.returns-clause-shown
returns-clause-shown g c = rw (ap (told c.args.setup.now) c.as_slice.ensures.value ∙ c.in_ok-groups.ensures.told) at c.summarize_groups.ensures.shown
