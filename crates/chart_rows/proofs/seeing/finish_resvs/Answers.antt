use Rattle.std.proofs.Common.{◌≡◌, ◌∙◌, true}
use Rattle.rt_rules.specs.Numbers.{has}
use Rattle.rank_afresh.specs.Standing.{group_of}
use Rattle.chart_texts.specs.Charts.{group_resvs}
use Rattle.chart_rows.specs.Rows.{ResvKept, resv_finished}
use Rattle.chart_rows.proofs.Changed.{changed-all, changed-all-at, changed-more}
use Rattle.chart_rows.proofs.seeing.finish_resvs.Goals as goal

pub finish_resv-requires-clause-resv : goal.finish_resv-requires-clause-resv
finish_resv-requires-clause-resv c =
    let g = group_of c.args.afresh.now in
    let past = c.requires.at.0 in
    changed-all-at (λ (k : ResvKept). has k.resv (group_resvs g) ≡ true) (resv_finished g past) c.args.resvs.now c.loop-row.resvs c.loop-row.row-index c.row-item.result c.requires.resvs c.loop-row-test.true (c.loop-row.invariant past c.requires.at.1) c.row-item.is

pub loop-row-preserved : goal.loop-row-preserved
loop-row-preserved c = λ past at.
    let g = group_of c.args.afresh.now in
    changed-more (resv_finished g past) c.args.resvs.now c.loop-row.resvs c.loop-row.row-index c.row-item.result c.finish_resv.new.row c.loop-row-test.true (c.loop-row.invariant past at) c.row-item.is (c.finish_resv.ensures past at)

pub returns : goal.returns
returns c = λ past at. c.loop-row.invariant past at ∙ changed-all (resv_finished (group_of c.args.afresh.now) past) c.args.resvs.now c.loop-row.row-index c.loop-row-test.false
