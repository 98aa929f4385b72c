use Rattle.std.proofs.Common.{◌≡◌, ℕ, min, List, length, take, ap, ◌∙◌, subst, arith}
use Rattle.std.proofs.lemmas.List.{length-map}
use Rattle.rt_base.specs.TaskNos.{number_of_task, numbers, numbers_of_tasks}
use Rattle.rt_rules.specs.Rankings.{tasks_of}
use Rattle.rank_afresh.specs.contracts.cluster.RankedCluster.{the_view}
use Rattle.rank_afresh.specs.declared.ranks.Candidate.{Candidate}
use Rattle.rank_afresh.specs.Candidates.{ranked_all}
use Rattle.rank_afresh.specs.Clusters.{ClusterFacts, top_of}
use Rattle.rank_afresh.proofs.Firsts.{tasks-least}
use Rattle.rank_afresh.proofs.cluster.RankedCluster.read_top.Goals as goal
use Rattle.rank_afresh.proofs.cluster.RankedCluster.read_top.Goals.{After-write_tasks}

-- what was written is the top
top_is : (c : After-write_tasks) → numbers c.write_tasks.new.top.items ≡ top_of (the_view c.self.inside)
top_is c =
    let cs : List Candidate = c.self.inside.ranked.items in
    let least : c.min-count.result ≡ min (length cs) c.len-cpus.result = omega (arith, c.min-count.ensures, c.len.ensures, c.self.inside.ranked.ok.0) in
    let count : c.len-cpus.result ≡ length (numbers_of_tasks c.self.inside.links.items) = omega (arith, c.len-cpus.ensures, c.self.inside.links.ok.0, length-map c.self.inside.links.items number_of_task) in
    c.write_tasks.ensures.top ∙ ap (λ (xs : List Candidate). tasks_of (ranked_all (take c.min-count.result xs))) c.as_slice-3.ensures.value ∙ tasks-least c.len-cpus.result c.min-count.result cs least
    ∙ ap (λ n. take n (tasks_of (ranked_all cs))) count

pub invariant_of-self-2 : goal.invariant_of-self-2
invariant_of-self-2 c =
    let i = c.self.invariant in
    (i.0, i.1, i.2, i.3, i.4, i.5, omega (arith, i.6, c.write_tasks.ensures.capacity), i.7, i.8, i.9, λ e. top_is (goal.at.invariant_of-self-2 c).After-write_tasks)

pub returns-clause-top : goal.returns-clause-top
returns-clause-top c =
    subst (λ (v : ClusterFacts). record (the_view c.self.inside) { top = numbers c.write_tasks.new.top.items } ≡ record v { top = top_of v }) c.self.view_is
    (ap (λ (ts : List ℕ). record (the_view c.self.inside) { top = ts }) (top_is (goal.at.returns-clause-top c).After-write_tasks))
