use Rattle.std.proofs.Common.{◌-◌, drop, sym, ap, ◌∙◌, arith}
use Rattle.rt_base.specs.TaskNos.{numbers}
use Rattle.rt_rules.specs.Rankings.{ranked_by}
use Rattle.part_state.specs.inside.Candidates.{head}
use Rattle.part_state.specs.Reads.{better_with, key_in, may_run}
use Rattle.part_state.proofs.Linking.{head-ranked, one-more, there}
use Rattle.part_state.proofs.state.PartState.linked.Goals as goal

pub better-best-requires-clause-read : goal.better-best-requires-clause-read
better-best-requires-clause-read c = c.requires.read _
    (there c.args.tasks.now (c.loop-i.i - 1) _ (let a = c.loop-i-test.true in let b = c.loop-i.auto.i in omega (arith, a, b)))

pub loop-i-preserved : goal.loop-i-preserved
loop-i-preserved c =
    let more = one-more c.args.tasks.now c.loop-i.i (record { 0 = 0 }) c.loop-i-test.true c.loop-i.auto.i in
    c.better-best.ensures
    ∙ ap (better_with c.args.parts.now c.args.ceilings.now c.args.self.now _) c.loop-i.invariant
    ∙ head-ranked c.args.parts.now c.args.ceilings.now c.args.self.now _ (numbers (drop c.loop-i.i c.args.tasks.now))
    ∙ ap (λ ts. head (ranked_by (key_in c.args.parts.now c.args.ceilings.now c.args.self.now) (may_run c.args.parts.now c.args.ceilings.now c.args.self.now) ts)) (sym more)
