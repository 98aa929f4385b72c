use Rattle.std.proofs.Common.{◌≡◌, ◌∙◌, ◌+◌, ◌≤◌, ◌<◌, ◌++◌, List, [], ◌∷◌, ℕ, true, false, length, get_or, refl, sym, ap, subst, arith, append-nil, eq-eqb}
use Rattle.std.specs.Prelude.{filter, flat_map, sum_by}
use Rattle.rt_base.specs.declared.TheConstants.{MOST_CPUS}
use Rattle.rt_task.specs.declared.Cluster.{Cluster}
use Rattle.rt_rules.specs.Numbers.{numbers_from}
use Rattle.rt_model.specs.Group.{clusters, first_in, in_group}
use Rattle.rt_plays.proofs.SetLimits.{sets_are_in_limits}
use Rattle.rank_afresh.proofs.SetLists.{cpus-read, cpus_of, first-more, first-read, first-within, group-read}
use Rattle.why_texts.specs.ClusterLines.{cluster_lines}
use Rattle.why_states.proofs.Rows.{row-next, unequal}
use Rattle.why_states.proofs.Facts.{cluster-there}
use Rattle.why_states.proofs.clusters.put_clusters.Goals.{then-row-state+in_ok-put_cluster, else-row-state}
use Rattle.why_states.specs.States.{IsAt, group_of}
use Rattle.why_states.proofs.clusters.put_clusters.Goals as goal

pub loop-i-init : goal.loop-i-init
loop-i-init c = record { first = none c.args.state.now.set.parts.now.clusters; text = λ past is. sym (append-nil c.args.out.now.items) }
  where
    none : (ks : List Cluster) → 0 ≡ first_in ks 0
    none [] = refl
    none (k ∷ ks) = refl

pub overflow_cast-i : goal.overflow_cast-i
overflow_cast-i c = omega (arith, c.loop-i-test.true, (sets_are_in_limits c.args.state.now.set.parts.now c.requires.1.valid).few_clusters, ap (λ (ks : List Cluster). length ks) c.as_slice-row-items.ensures)

pub put_cluster-requires-clause-cluster : goal.put_cluster-requires-clause-cluster
put_cluster-requires-clause-cluster c =
    let g = group_of c.args.state.now in
    let i = c.loop-i.i in
    let low : i < length g.setup.clusters = omega (arith, c.loop-i-test.true, ap (λ (ks : List Cluster). length ks) c.as_slice-row-items.ensures) in
    cluster-there g i low (group-read g.setup g.number i c.as_slice-row-items.result.now (record { cpus = 0; group = record { 0 = 0 } }) c.as_slice-row-items.ensures low ∙ eq-eqb _ _ c.if-row-state.true)

pub put_cluster-requires-clause-first : goal.put_cluster-requires-clause-first
put_cluster-requires-clause-first c = c.loop-i.invariant.first ∙ first-read (group_of c.args.state.now) c.loop-i.i c.args.state.now.set.parts.now.clusters refl

pub put_cluster-requires-clause-count : goal.put_cluster-requires-clause-count
put_cluster-requires-clause-count c = cpus-read (group_of c.args.state.now) c.loop-i.i c.as_slice-row-items.result.now _ c.as_slice-row-items.ensures c.loop-i-test.true

fits : (rows clusters : List Cluster) (i first : ℕ) (d : Cluster) → rows ≡ clusters → i < length rows → first ≡ first_in clusters i → sum_by cpus_of clusters ≤ MOST_CPUS → first + (get_or rows i d).cpus ≤ 64
fits rows clusters i first d same low is few =
    let within : first_in rows i + (get_or rows i d).cpus ≤ sum_by cpus_of rows = first-within rows i d low in
    omega (arith, within, few, is ∙ ap (λ (ks : List Cluster). first_in ks i) (sym same), ap (λ (ks : List Cluster). sum_by cpus_of ks) same)

pub put_cluster-requires-clause-few : goal.put_cluster-requires-clause-few
put_cluster-requires-clause-few c =
    let low = fits c.as_slice-row-items.result.now c.args.state.now.set.parts.now.clusters c.loop-i.i c.loop-i.first (record { cpus = 0; group = record { 0 = 0 } }) c.as_slice-row-items.ensures c.loop-i-test.true c.loop-i.invariant.first (sets_are_in_limits c.args.state.now.set.parts.now c.requires.1.valid).few_cpus in
    omega (arith, low)

pub overflow_add-first : goal.overflow_add-first
overflow_add-first c =
    let low = fits c.as_slice-row-items.result.now c.args.state.now.set.parts.now.clusters c.loop-i.i c.loop-i.first (record { cpus = 0; group = record { 0 = 0 } }) c.as_slice-row-items.ensures c.loop-i-test.true c.loop-i.invariant.first (sets_are_in_limits c.args.state.now.set.parts.now c.requires.1.valid).few_cpus in
    omega (arith, low)

pub loop-i-preserved : goal.loop-i-preserved
loop-i-preserved c = record {
  first =
      let rows : List Cluster = c.as_slice-row-items.result.now in
      let d : Cluster = record { cpus = 0; group = record { 0 = 0 } } in
      sym (ap (λ (ks : List Cluster). first_in ks (c.loop-i.i + 1)) (sym c.as_slice-row-items.ensures) ∙ first-more rows c.loop-i.i d c.loop-i-test.true ∙ ap (λ m. m + (get_or rows c.loop-i.i d).cpus) (sym (c.loop-i.invariant.first ∙ ap (λ (ks : List Cluster). first_in ks c.loop-i.i) (sym c.as_slice-row-items.ensures))));
  text = λ past is.
      let g = group_of c.args.state.now in
      let i = c.loop-i.i in
      let low : i < length g.setup.clusters = omega (arith, c.loop-i-test.true, ap (λ (ks : List Cluster). length ks) c.as_slice-row-items.ensures) in
      let told = group-read g.setup g.number i c.as_slice-row-items.result.now (record { cpus = 0; group = record { 0 = 0 } }) c.as_slice-row-items.ensures low in
      let here : 0 + i ≡ i = omega arith in
      let test = ap (in_group g) here in
      let line = λ (n : ℕ). cluster_lines g n past in
      elim c.if-row-state.branch [
        | then-row-state+in_ok-put_cluster w ↦ row-next 0 (in_group g) line i true c.args.out.now.items c.loop-i.out.items c.if-row-state.out.items (test ∙ told ∙ eq-eqb _ _ w.if-row-state.true) (c.loop-i.invariant.text past is) (ap (λ v. v.items) w.out-is ∙ w.in_ok-put_cluster.ensures past is ∙ ap (λ n. c.loop-i.out.items ++ line n) (sym here))
        | else-row-state w ↦ row-next 0 (in_group g) line i false c.args.out.now.items c.loop-i.out.items c.if-row-state.out.items (test ∙ told ∙ unequal _ _ w.if-row-state.false) (c.loop-i.invariant.text past is) (ap (λ v. v.items) w.out-is ∙ sym (append-nil c.loop-i.out.items))
      ];
}

pub returns : goal.returns
unfolding clusters
returns c = λ past is.
    let g = group_of c.args.state.now in
    let all : c.loop-i.i ≡ length g.setup.clusters = omega (arith, c.loop-i-test.false, c.loop-i.auto.i-end, ap (λ (ks : List Cluster). length ks) c.as_slice-row-items.ensures) in
    c.loop-i.invariant.text past is ∙ ap (λ n. c.args.out.now.items ++ flat_map (λ m. cluster_lines g m past) (filter (in_group g) (numbers_from 0 n))) all
