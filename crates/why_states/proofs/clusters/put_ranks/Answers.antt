use Rattle.std.proofs.Common.{◌≡◌, ◌∙◌, ◌++◌, true, drop, take, sym, ap, subst}
use Rattle.std.proofs.lemmas.Result.{on_ok_weaker}
use Rattle.rt_base.specs.TaskNos.{numbers}
use Rattle.rt_rules.specs.Numbers.{has}
use Rattle.rt_rules.specs.Rankings.{tasks_of}
use Rattle.rt_model.specs.Group.{Group, clusters, cpus}
use Rattle.rt_model.specs.Past.{Past}
use Rattle.rt_model.specs.Tops.{ranking, top}
use Rattle.why_texts.specs.ClusterLines.{behind_top}
use Rattle.why_states.specs.States.{IsAt, group_of}
use Rattle.why_states.proofs.clusters.put_ranks.Goals as goal

pub ranking-requires : goal.ranking-requires
ranking-requires c = subst (λ (g : Group). has c.args.cluster.0 (clusters g) ≡ true) (sym c.requires.at.1.group_is) c.requires.cluster

pub returns : goal.returns
unfolding top behind_top
returns c =
    on_ok_weaker c.put_rank_line.result (λ put past is.
    let g = group_of c.args.state.now in
    let ranked = ap numbers c.as_slice.ensures.value ∙ c.in_ok-ranking.ensures past is.at ∙ ap (λ (x : Group). tasks_of (ranking x c.args.cluster.0 past)) is.group_is in
    let top_is = c.split_top.ensures.top ∙ ap (λ ts. take c.args.count ts) ranked ∙ ap (λ n. take n (tasks_of (ranking g c.args.cluster.0 past))) c.requires.count in
    let behind_is = c.split_top.ensures.behind ∙ ap (λ ts. drop c.args.count ts) ranked ∙ ap (λ n. drop n (tasks_of (ranking g c.args.cluster.0 past))) c.requires.count in
    rw (← top_is, ← behind_is) put) c.put_rank_line.ensures
