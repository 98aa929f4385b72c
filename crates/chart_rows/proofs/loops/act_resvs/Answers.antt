use Rattle.std.proofs.Common.{◌≡◌, ◌∙◌, true}
use Rattle.rt_rules.specs.Numbers.{has}
use Rattle.chart_texts.specs.Charts.{group_resvs}
use Rattle.chart_rows.specs.Rows.{ResvKept, resv_acted}
use Rattle.chart_rows.proofs.Changed.{changed-all, changed-all-at, changed-more}
use Rattle.chart_rows.proofs.loops.act_resvs.Goals as goal

pub loop-row-preserved : goal.loop-row-preserved
loop-row-preserved c = λ g m there told.
    let inside = changed-all-at (λ (k : ResvKept). has k.resv (group_resvs g) ≡ true) (resv_acted g m) c.args.resvs.now c.loop-row.resvs c.loop-row.row-index c.row-item.result there c.loop-row-test.true (c.loop-row.invariant g m there told) c.row-item.is in
    changed-more (resv_acted g m) c.args.resvs.now c.loop-row.resvs c.loop-row.row-index c.row-item.result c.act_resv.new.row c.loop-row-test.true (c.loop-row.invariant g m there told) c.row-item.is (c.act_resv.ensures g m inside told)

pub returns : goal.returns
returns c = λ g m there told. c.loop-row.invariant g m there told ∙ changed-all (resv_acted g m) c.args.resvs.now c.loop-row.row-index c.loop-row-test.false
