use Rattle.std.proofs.Common.{◌≡◌, ◌+◌, ◌-◌, ◌<◌, ℕ, set, get_or, length, subst, sym, ◌∙◌, arith}
use Rattle.std.proofs.lemmas.Grind.{get_or_default_zero}
use Rattle.std.proofs.lemmas.List.Elements.{All-get_or}
use Rattle.rt_task.specs.declared.Step.{Step}
use Rattle.rt_task.specs.declared.Act.TheVariants as acts
use Rattle.cpu_site.specs.StepChains.{IsChainedFrom}
use Rattle.cpu_site.proofs.Chaining.{chained-more}
use Rattle.cpu_site.proofs.next_steps.chained.Goals as goal

pub loop-i-preserved : goal.loop-i-preserved
loop-i-preserved c =
    let j : ℕ = c.loop-i.i - 1 in
    let here : c.loop-i.i ≡ j + 1 = omega (arith, c.loop-i-test.true) in
    let low : j < length c.args.steps.now = omega (arith, c.loop-i-test.true, c.loop-i.invariant.0) in
    let e : Step = record { cpu = record { 0 = 0 }; tick = record { 0 = 0 }; act = acts.Tick } in
    let chain = subst (λ (i : ℕ). IsChainedFrom c.args.steps.now c.args.cpus i c.loop-i.firsts.items c.loop-i.nexts.items) here c.loop-i.invariant.1 in
    let inside = All-get_or (λ (s : Step). s.cpu.0 < c.args.cpus) c.args.steps.now j e low c.requires in
    let value : c.index.result.now ≡ get_or c.loop-i.firsts.items (get_or c.args.steps.now j e).cpu.0 0 = c.index.ensures ∙ get_or_default_zero c.loop-i.firsts.items (get_or c.args.steps.now j e).cpu.0 _ (rw chain.all_cpus inside) in
    let more = chained-more c.args.steps.now c.args.cpus j c.loop-i.firsts.items c.loop-i.nexts.items low chain e inside in
    (omega (arith, low), subst (λ (v : ℕ). IsChainedFrom c.args.steps.now c.args.cpus j (set c.loop-i.firsts.items (get_or c.args.steps.now j e).cpu.0 j) (set c.loop-i.nexts.items j v)) (sym value) more)

pub returns : goal.returns
returns c = subst (λ (i : ℕ). IsChainedFrom c.args.steps.now c.args.cpus i c.loop-i.firsts.items c.loop-i.nexts.items) (omega (arith, c.loop-i-test.false)) c.loop-i.invariant.1
