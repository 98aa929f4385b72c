use Rattle.std.proofs.Common.{◌≡◌, ℕ, ◌-◌, ◌<◌, true, false, not, List, length, set, inl, inr, sym, ap, ◌∙◌, subst, arith, ltb-true, refl}
use Rattle.std.specs.Prelude.{None, Option, Some, if◌then◌else◌, is_some, nat_le, nat_lt}
use Rattle.std.proofs.lemmas.List.{length-map}
use Rattle.rt_base.specs.TaskNos.{number_of_task, numbers_of_tasks}
use Rattle.rt_base.specs.declared.TaskNo.{TaskNo}
use Rattle.rt_rules.proofs.BoolLaws.{both}
use Rattle.link_table.proofs.PlaceLaws.{numbers_of_tasks-set, read-link_at}
use Rattle.group_jobs.specs.Kept.{cpu_of}
use Rattle.rank_afresh.specs.contracts.cluster.RankedCluster.{the_view}
use Rattle.rank_afresh.specs.Clusters.{ClusterFacts, RunsStay, has_cpu}
use Rattle.rank_afresh.proofs.SetLists.{same-task}
use Rattle.rank_afresh.proofs.cluster.RankedCluster.read_run.Goals as goal
use Rattle.rank_afresh.proofs.cluster.RankedCluster.read_run.Goals.{then-is_none, else-is_none}

pub returns-clause-run : goal.returns-clause-run
returns-clause-run c =
    let q : ℕ = c.args.cpu.0 in
    let x : ClusterFacts = the_view c.self.inside in
    let rs : List (Option TaskNo) = c.self.inside.runs.items in
    let run : Option ℕ = (cpu_of c.args.core.now.facts.kept q).runs in
    let its : has_cpu x q ≡ true = subst (λ (v : ClusterFacts). has_cpu v q ≡ true) (sym c.self.view_is) c.requires.cpu in
    let written : numbers_of_tasks (set rs (q - x.first) c.runs-run.result) ≡ set x.runs (q - x.first) run = numbers_of_tasks-set rs (q - x.first) c.runs-run.result ∙ ap (set x.runs (q - x.first)) c.runs-run.ensures in
    subst (λ (v : ClusterFacts). record x { runs = numbers_of_tasks (set rs (q - x.first) c.runs-run.result) } ≡ record v { runs = if has_cpu v q then set v.runs (q - v.first) run else v.runs }) c.self.view_is
    (ap (λ (os : List (Option ℕ)). record x { runs = os }) (written ∙ ap (λ b. if b then set x.runs (q - x.first) run else x.runs) (sym its)))

runs-none : (o : Option TaskNo) → is_some o ≡ false → number_of_task o ≡ None
runs-none None h = refl
runs-none (Some t) h = cc

pub returns-clause-stays : goal.returns-clause-stays
returns-clause-stays c = λ still.
    let q : ℕ = c.args.cpu.0 in
    let x : ClusterFacts = the_view c.self.inside in
    let rs : List (Option TaskNo) = c.self.inside.runs.items in
    let ls : List (Option TaskNo) = c.self.inside.links.items in
    let its : has_cpu x q ≡ true = subst (λ (v : ClusterFacts). has_cpu v q ≡ true) (sym c.self.view_is) c.requires.cpu in
    let room : length x.runs ≡ length x.links = subst (λ (v : ClusterFacts). length v.runs ≡ length v.links) (sym c.self.view_is) c.requires.room in
    let low : q - x.first < length x.links = ltb-true _ _ (both (nat_le x.first q) (nat_lt (q - x.first) (length x.links)) its).1 in
    let written = numbers_of_tasks-set rs (q - x.first) c.runs-run.result in
    subst (λ (v : ClusterFacts). RunsStay v.links v.runs (numbers_of_tasks (set rs (q - x.first) c.runs-run.result))) c.self.view_is
    (inr (record {
      position = q - x.first;
      inside = omega (arith, low, room);
      runs_are = elim c.if-is_none.branch [
        | then-is_none w ↦ inl (written ∙ ap (set x.runs (q - x.first)) (runs-none c.runs-run.result (c.is_none.ensures ∙ ap not w.if-is_none.true)))
        | else-is_none w ↦ inr (written ∙ ap (set x.runs (q - x.first)) (same-task _ _ (sym w.eq.ensures ∙ sym w.result-is ∙ still) ∙ read-link_at ls (q - x.first) _ (omega (arith, low, length-map ls number_of_task)) w.index.ensures))
      ];
    }))
