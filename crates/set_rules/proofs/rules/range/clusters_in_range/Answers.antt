use Rattle.std.proofs.Common.{◌≡◌, ◌<◌, List, true, length, take, get_or, max, refl, ap, sym, subst, ◌∙◌}
use Rattle.std.proofs.lemmas.List.{take_more}
use Rattle.rt_task.specs.declared.draft.DraftCluster.{DraftCluster}
use Rattle.rt_task.specs.RangeRules as rules
use Rattle.set_rules.proofs.RangeLaws.{groups_top-push}
use Rattle.set_rules.proofs.RefusalLaws.{first_failing-next, is_empty-take}
use Rattle.set_rules.proofs.rules.range.clusters_in_range.Goals as goal

pub loop-i-preserved : goal.loop-i-preserved
loop-i-preserved c =
    let items : List DraftCluster = c.as_slice-c-items.result.now in
    let xs = c.args.d.now.clusters in
    let i = c.loop-i.i in
    let d : DraftCluster = record { cpus = 0; group = 0 } in
    let same : items ≡ xs = c.as_slice-c-items.ensures in
    let lt : i < length xs = subst (λ (ys : List DraftCluster). i < length ys) same c.loop-i-test.true in
    let passed : rules.cluster_range c.args.d.now (take i xs) (get_or items i d) ≡ true =
    sym (c.cluster_range.ensures c.args.d.now (take i xs) refl (is_empty-take xs i lt) c.loop-i.invariant.top) ∙ c.if-not-cluster_range.false in
    record {
      rest = first_failing-next (rules.cluster_range c.args.d.now) xs i d lt (subst (λ (ys : List DraftCluster). rules.cluster_range c.args.d.now (take i xs) (get_or ys i d) ≡ true) same passed)
          ∙ c.loop-i.invariant.rest;
      top = c.max-top.ensures ∙ ap (λ (ys : List DraftCluster). max c.loop-i.top (get_or ys i d).group) same
          ∙ ap (λ n. max n (get_or xs i d).group) c.loop-i.invariant.top
          ∙ sym (groups_top-push (take i xs) (get_or xs i d)) ∙ ap rules.groups_top (sym (take_more xs i d lt));
    }
