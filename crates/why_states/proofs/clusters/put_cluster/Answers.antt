use Rattle.std.proofs.Common.{◌≡◌, ◌∙◌, ℕ, ◌++◌, true, refl, sym, ap, subst, append_assoc}
use Rattle.std.specs.Prelude.{flat_map}
use Rattle.std.proofs.lemmas.Result.{on_ok_weaker}
use Rattle.rt_rules.specs.Numbers.{has, numbers_from}
use Rattle.rt_model.specs.Group.{cpus, first_cpu, processors}
use Rattle.why_texts.specs.ClusterLines.{cpu_line, rank_line}
use Rattle.rank_afresh.proofs.ModelWords.{processor-there}
use Rattle.why_states.specs.States.{IsAt, group_of}
use Rattle.why_states.proofs.clusters.put_cluster.Goals as goal

pub put_cpus-requires-clause-cpus : goal.put_cpus-requires-clause-cpus
unfolding processors
put_cpus-requires-clause-cpus c = λ q h. processor-there (group_of c.args.state.now) c.args.cluster.0 q c.requires.cluster
    (subst (λ n. has q (numbers_from n (cpus (group_of c.args.state.now) c.args.cluster.0)) ≡ true) c.requires.first (subst (λ n. has q (numbers_from c.args.first n) ≡ true) c.requires.count h))

pub returns : goal.returns
unfolding processors
returns c =
    on_ok_weaker c.put_cpus.result (λ put past is.
    let g = group_of c.args.state.now in
    let line = λ (q : ℕ). cpu_line g q past in
    put past is ∙ ap (λ ys. ys ++ flat_map line (numbers_from c.args.first c.args.count)) (c.in_ok-put_ranks.ensures past is)
    ∙ append_assoc c.args.out.now.items (rank_line g c.args.cluster.0 past) (flat_map line (numbers_from c.args.first c.args.count))
    ∙ ap (λ n. c.args.out.now.items ++ (rank_line g c.args.cluster.0 past ++ flat_map line (numbers_from n c.args.count))) c.requires.first
    ∙ ap (λ n. c.args.out.now.items ++ (rank_line g c.args.cluster.0 past ++ flat_map line (numbers_from (first_cpu g c.args.cluster.0) n))) c.requires.count) c.put_cpus.ensures
