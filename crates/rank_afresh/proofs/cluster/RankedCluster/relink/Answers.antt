use Rattle.std.proofs.Common.{◌≡◌, ◌<◌, ℕ, true, List, length, take, refl, sym, ap, ◌∙◌, subst, arith}
use Rattle.std.specs.Prelude.{Option}
use Rattle.std.proofs.lemmas.List.{length-map}
use Rattle.rt_base.specs.TaskNos.{number_of_task, numbers}
use Rattle.rt_rules.specs.Distinct.{IsDistinct}
use Rattle.rt_rules.specs.Numbers.{has}
use Rattle.rt_rules.specs.Rankings.{tasks_of}
use Rattle.rt_rules.proofs.RankedLaws.{distinct-take, has-take}
use Rattle.group_jobs.specs.Kept.{Kept}
use Rattle.rank_afresh.specs.contracts.cluster.RankedCluster.{the_view}
use Rattle.rank_afresh.specs.declared.ran.Ran.{Ran}
use Rattle.rank_afresh.specs.declared.ran.Ran.TheVariants as rans
use Rattle.rank_afresh.specs.Candidates.{ranked_all}
use Rattle.rank_afresh.specs.Clusters.{ClusterFacts, runs_anew, top_of}
use Rattle.rank_afresh.proofs.SetLists.{length-runs_in, marked-inside}
use Rattle.rank_afresh.proofs.cluster.RankedCluster.relink.Goals as goal
use Rattle.rank_afresh.proofs.cluster.RankedCluster.relink.Goals.{After-as_mut_slice-3}

-- what runs is read whatever the top is
over-top : (ran : Ran) (k : Kept) (c : ClusterFacts) (ts : List ℕ) → runs_anew ran k (record c { top = ts }) ≡ runs_anew ran k c
over-top rans.Nowhere k c ts = refl
over-top (rans.At q) k c ts = refl
over-top rans.Anywhere k c ts = refl

-- the top and what runs are read, and the rest is as it was
seen : (c : After-as_mut_slice-3) → the_view c.self.inside ≡ record c.args.self.now { top = top_of c.args.self.now; runs = runs_anew c.args.ran c.args.core.now.facts.kept c.args.self.now }
seen c =
    let x : ClusterFacts = c.args.self.now in
    let k : Kept = c.args.core.now.facts.kept in
    c.self.view_is ∙ c.read_runs-runs_stay.ensures.runs ∙ ap (λ (v : ClusterFacts). record v { runs = runs_anew c.args.ran k v }) c.read_top-top_stays.ensures.top
    ∙ ap (λ (rs : List (Option ℕ)). record x { top = top_of x; runs = rs }) (over-top c.args.ran k x (top_of x))

top_is : (c : After-as_mut_slice-3) → numbers c.as_slice.result.now ≡ take (length c.args.self.now.links) (tasks_of (ranked_all c.self.inside.ranked.items))
top_is c =
    let all = seen c in
    ap numbers c.as_slice.ensures.value ∙ ap (λ (v : ClusterFacts). v.top) all ∙ sym (ap (λ (v : ClusterFacts). take (length c.args.self.now.links) (tasks_of v.ranked)) all)

pub place-requires-clause-length : goal.place-requires-clause-length
place-requires-clause-length c =
    let all = seen (goal.at.place-requires-clause-length c).After-as_mut_slice-3 in
    let x : ClusterFacts = c.args.self.now in
    let runs = ap (λ (v : ClusterFacts). length v.runs) all ∙ ap length c.requires.runs ∙ length-runs_in c.args.core.now.facts.kept x.first (length x.links) in
    let links = ap (λ (v : ClusterFacts). length v.links) all in
    omega (arith, runs, links, length-map c.self.inside.runs.items number_of_task, length-map c.self.inside.links.items number_of_task, ap length c.as_slice-2.ensures.value, ap length c.as_mut_slice.ensures.value)

pub place-requires-clause-distinct : goal.place-requires-clause-distinct
place-requires-clause-distinct c =
    let top = top_is (goal.at.place-requires-clause-distinct c).After-as_mut_slice-3 in
    subst IsDistinct (sym top) (distinct-take (length c.args.self.now.links) (tasks_of (ranked_all c.self.inside.ranked.items)) c.self.invariant.4.once)

pub place-requires-clause-room : goal.place-requires-clause-room
place-requires-clause-room c = λ t h.
    let top = top_is (goal.at.place-requires-clause-room c).After-as_mut_slice-3 in
    let listed : has t (take (length c.args.self.now.links) (tasks_of (ranked_all c.self.inside.ranked.items))) ≡ true = subst (λ (ts : List ℕ). has t ts ≡ true) top h in
    let own : has t (numbers c.self.inside.tasks.items) ≡ true = c.self.invariant.4.inside t (has-take t (length c.args.self.now.links) _ listed) in
    let inside : t < length c.self.inside.own.items = marked-inside c.self.inside.own.items t (c.self.invariant.1 t ∙ own) in
    omega (arith, inside, c.self.invariant.2, c.as_mut_slice-2.ensures.len, c.self.inside.in_top.ok.0)
