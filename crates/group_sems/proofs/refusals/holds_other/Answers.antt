use Rattle.std.proofs.Common.{sym, ◌∙◌}
use Rattle.group_sems.proofs.RefusalLaws.{rest-known, rest-next}
use Rattle.group_sems.proofs.refusals.holds_other.Goals as goal

pub holds_other_one-requires : goal.holds_other_one-requires
holds_other_one-requires c = rest-known c.args.parts.now c.args.sems.now c.args.task.0 c.loop-sem.sem-index c.args.of.now (record { 0 = 0 }) c.loop-sem.invariant c.loop-sem-test.true

pub loop-sem-preserved : goal.loop-sem-preserved
loop-sem-preserved c = rest-next c.args.parts.now c.args.sems.now c.args.task.0 c.loop-sem.sem-index c.args.of.now (record { 0 = 0 }) c.loop-sem.invariant c.loop-sem-test.true (sym c.holds_other_one.ensures ∙ c.if-holds_other_one.false)
