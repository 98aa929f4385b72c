use Rattle.std.proofs.Common.{◌≡◌, [], drop, ap, sym, ◌∙◌, append-nil, arith}
use Rattle.rt_task.specs.declared.Parts.{Parts}
use Rattle.trace_text.specs.Groups.{cpu_numbers}
use Rattle.rt_plays.proofs.ProcessorLaws.{cpus_among, group_processors_among}
use Rattle.trace_text.proofs.ReplayLaws.{drop_end}
use Rattle.trace_text.proofs.cpus.cpus_of.Goals as goal

pub returns : goal.returns
returns c =
    let clusters : c.as_slice-clusters.result.now ≡ c.args.setup.now.clusters = c.as_slice-clusters.ensures ∙ ap (λ (p : Parts). p.clusters) c.parts.ensures.parts in
    let none : drop c.loop-cluster.cluster-index c.as_slice-clusters.result.now ≡ [] = drop_end c.as_slice-clusters.result.now c.loop-cluster.cluster-index (omega (arith, c.loop-cluster-test.false)) in
    let all = rw (none, append-nil (cpu_numbers c.loop-cluster.cpus.items)) at c.loop-cluster.invariant.0 in
    all ∙ ap (cpus_among c.args.group.0 0) clusters ∙ sym (group_processors_among (record { setup = c.args.setup.now; number = c.args.group.0 }))
