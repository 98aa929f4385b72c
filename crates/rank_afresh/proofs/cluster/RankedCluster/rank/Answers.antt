use Rattle.std.proofs.Common.{◌≡◌, ◌<◌, ℕ, List, length, length-set, set, take, true, false, ◌||◌, sym, ◌∙◌, subst, arith}
use Rattle.std.specs.Prelude.{Option}
use Rattle.std.proofs.lemmas.List.{length-map}
use Rattle.rt_base.specs.TaskNos.{number_of_task, numbers, numbers_of_tasks}
use Rattle.rt_base.specs.declared.TaskNo.{TaskNo}
use Rattle.rt_rules.specs.declared.Key.{Key}
use Rattle.rt_rules.specs.Keys.{Ranked}
use Rattle.rt_rules.specs.Numbers.{has}
use Rattle.rt_rules.specs.Rankings.{tasks_of, without_task}
use Rattle.rt_rules.proofs.BoolLaws.{neither}
use Rattle.rank_afresh.specs.Candidates.{AreKeys, ranked_all}
use Rattle.rank_afresh.specs.Clusters.{ClusterFacts}
use Rattle.rank_afresh.specs.Ranks.{AreAmong}
use Rattle.rank_afresh.proofs.Among.{among-with, room-left}
use Rattle.rank_afresh.proofs.Keyed.{keys-with}
use Rattle.rank_afresh.proofs.SetLists.{marked-inside}
use Rattle.rank_afresh.proofs.cluster.RankedCluster.rank.Goals as goal
use Rattle.rank_afresh.proofs.cluster.RankedCluster.rank.Goals.{After-index}

own : (c : After-index) → has c.args.task.0 (numbers c.self.inside.tasks.items) ≡ true
own c = subst (λ (x : ClusterFacts). has c.args.task.0 x.tasks ≡ true) (sym c.self.view_is) c.requires

pub rank_anew-requires-clause-room : goal.rank_anew-requires-clause-room
rank_anew-requires-clause-room c =
    let ts : List ℕ = numbers c.self.inside.tasks.items in
    let rs : List Ranked = ranked_all c.self.inside.ranked.items in
    let left : length (without_task c.args.task.0 rs) < length ts = room-left ts c.args.task.0 rs c.self.invariant.4 (own (goal.at.rank_anew-requires-clause-room c).After-index) c.self.invariant.0 in
    omega (arith, left, c.self.invariant.5, length-map c.self.inside.tasks.items (λ (t : TaskNo). t.0))

pub invariant_of-self : goal.invariant_of-self
invariant_of-self c =
    let t : ℕ = c.args.task.0 in
    let ts : List ℕ = numbers c.self.inside.tasks.items in
    let rs : List Ranked = ranked_all c.self.inside.ranked.items in
    let keys : List (Option Key) = c.self.inside.keys.items in
    let i = c.self.invariant in
    let its = own (goal.at.invariant_of-self c).After-index in
    let low : t < length c.self.inside.own.items = marked-inside c.self.inside.own.items t (i.1 t ∙ its) in
    let are : AreAmong ts (ranked_all c.rank_anew.new.best.items) = subst (AreAmong ts) (sym c.rank_anew.ensures.best) (among-with ts t rs i.4 its c.args.key) in
    let kept : AreKeys (ranked_all c.rank_anew.new.best.items) (set keys t c.args.key) = subst (λ (xs : List Ranked). AreKeys xs (set keys t c.args.key)) (sym c.rank_anew.ensures.best) (keys-with t c.args.key rs keys i.4.once (omega (arith, low, i.9)) i.8) in
    let count : c.len-cpus.result ≡ length (numbers_of_tasks c.self.inside.links.items) = omega (arith, c.len-cpus.ensures, c.self.inside.links.ok.0, length-map c.self.inside.links.items number_of_task) in
    let still-top = λ (still : c.self.inside.top_moved || c.rank_anew.result ≡ false).
    let none = neither c.self.inside.top_moved c.rank_anew.result still in
    i.10 none.0 ∙ subst (λ n. take n (tasks_of rs) ≡ take n (tasks_of (ranked_all c.rank_anew.new.best.items))) count (sym (c.rank_anew.ensures.first none.1)) in
    (i.0, i.1, i.2, i.3, are, omega (arith, i.5, c.rank_anew.ensures.capacity), i.6, i.7, kept, length-set keys t c.args.key ∙ i.9, still-top)
