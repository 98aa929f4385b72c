use Rattle.std.proofs.Common.{◌++◌, map, Ok, sym, ap, ◌∙◌, arith}
use Rattle.set_runs.proofs.SetRuns.{all-pushed, all-taken}
use Rattle.set_runs.proofs.set_run.all_run.Goals as goal

pub loop-run-init : goal.loop-run-init
loop-run-init c = sym (ap (λ xs. map (λ x. Ok x) xs ++ c.into_iter-run-iterator.result.rest.items) c.new-engines.ensures.items ∙ c.into_iter-run-iterator.ensures.into_iter_gives.0)

pub loop-run-preserved : goal.loop-run-preserved
loop-run-preserved c =
    all-pushed c.args.runs.items c.loop-run.engines.items c.push.new.self.items c.loop-run.run-iterator.rest.items c.next.new.self.rest.items c.in-Some.run' c.in_ok-engine.engine
    c.loop-run.invariant c.in-Some.ensures.steps.0 c.in_ok-engine.was
    (c.in_ok-push.ensures.items)

pub returns : goal.returns
returns c =
    all-taken c.args.runs.items c.loop-run.engines.items c.loop-run.run-iterator.rest.items c.loop-run.invariant
    (omega (arith, c.in-None.ensures.steps.0, c.loop-run.run-iterator.rest.ok.0))
