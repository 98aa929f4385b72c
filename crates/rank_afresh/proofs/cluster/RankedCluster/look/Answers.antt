use Rattle.std.proofs.Common.{ℕ, Bool, List, sym, ap, ◌∙◌}
use Rattle.std.specs.Prelude.{Option}
use Rattle.rt_rules.specs.declared.Key.{Key}
use Rattle.rt_rules.specs.Keys.{Ranked}
use Rattle.rt_rules.specs.Rankings.{without_task}
use Rattle.group_core.specs.Reads.{is_candidate, key_in}
use Rattle.rank_afresh.specs.Candidates.{with_key}
use Rattle.rank_afresh.specs.Clusters.{ClusterFacts}
use Rattle.rank_afresh.proofs.Keyed.{put_back-with}
use Rattle.rank_afresh.proofs.cluster.RankedCluster.look.Goals as goal

pub returns : goal.returns
returns c =
    let old : ClusterFacts = c.args.self.now in
    let f = c.args.core.now.facts in
    let key : ℕ → Key = key_in f.sems in
    let test : ℕ → Bool = is_candidate c.args.parts.now f.kept f.sems f.resvs in
    c.rank.ensures
    ∙ ap (λ (rs : List Ranked). record old { ranked = rs })
    (ap (λ (o : Option Key). with_key c.args.task.0 o (without_task c.args.task.0 old.ranked)) c.key_now-key.ensures ∙ sym (put_back-with key test c.args.task.0 old.ranked))
