use Rattle.std.proofs.Common.{◌≡◌, ◌<◌, length, take, get_or, max, ap, sym, ◌∙◌}
use Rattle.std.proofs.lemmas.List.{take_more}
use Rattle.rt_task.specs.declared.draft.DraftCluster.{DraftCluster}
use Rattle.rt_task.specs.RangeRules.{groups_top}
use Rattle.set_rules.proofs.RangeLaws.{groups_top-push}
use Rattle.set_explain.proofs.range.groups_top.Goals as goal

pub loop-c-preserved : goal.loop-c-preserved
loop-c-preserved c =
    let xs = c.args.clusters.now in
    let i = c.loop-c.c-index in
    let d : DraftCluster = record { cpus = 0; group = 0 } in
    let lt : i < length xs = c.loop-c-test.true in
    c.max-top.ensures ∙ ap (λ n. max n (get_or xs i d).group) c.loop-c.invariant
    ∙ sym (groups_top-push (take i xs) (get_or xs i d)) ∙ ap groups_top (sym (take_more xs i d lt))
