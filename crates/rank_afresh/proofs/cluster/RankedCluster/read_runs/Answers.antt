use Rattle.std.proofs.Common.{◌≡◌, ◌-◌, true, length, length-set, set, sym, ap, ◌∙◌, subst}
use Rattle.rt_base.specs.declared.CpuNo.{CpuNo}
use Rattle.group_jobs.specs.Kept.{Kept, cpu_of}
use Rattle.rank_afresh.specs.declared.ran.Ran.{Ran}
use Rattle.rank_afresh.specs.declared.ran.Ran.TheVariants as rans
use Rattle.rank_afresh.specs.Clusters.{ClusterFacts, RunBut, has_cpu, runs_in}
use Rattle.rank_afresh.proofs.SetLists.{length-runs_in}
use Rattle.rank_afresh.proofs.cluster.RankedCluster.read_runs.Goals as goal

-- there are as many runs as processors
room : (q : CpuNo) (k : Kept) (c : ClusterFacts) → has_cpu c q.0 ≡ true → RunBut (rans.At q) k c → length c.runs ≡ length c.links
room q k c its but =
    let runs : set c.runs (q.0 - c.first) (cpu_of k q.0).runs ≡ runs_in k c.first (length c.links) = rw its at but in
    sym (length-set c.runs (q.0 - c.first) (cpu_of k q.0).runs) ∙ ap length runs ∙ length-runs_in k c.first (length c.links)

pub read_run-requires-clause-room : goal.read_run-requires-clause-room
read_run-requires-clause-room c =
    room c.in-At.cpu c.args.core.now.facts.kept c.args.self.now (sym c.has_cpu.ensures ∙ c.if-has_cpu.true)
    (subst (λ (r : Ran). RunBut r c.args.core.now.facts.kept c.args.self.now) c.in-At.is c.requires.runs)
