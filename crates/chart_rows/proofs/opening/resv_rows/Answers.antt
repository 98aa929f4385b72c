use Rattle.std.proofs.Common.{◌∙◌, [], map, ap}
use Rattle.rt_base.specs.declared.ResvNo.{ResvNo}
use Rattle.chart_rows.specs.Units.{resv_numbers}
use Rattle.chart_cells.specs.KeptFirst.{kept_left}
use Rattle.chart_rows.specs.Rows.{resv_kept}
use Rattle.chart_rows.specs.Strips.{blank}
use Rattle.chart_rows.proofs.Changed.{made-all, made-more}
use Rattle.chart_rows.proofs.opening.resv_rows.Goals as goal

pub loop-resv-preserved : goal.loop-resv-preserved
unfolding kept_left
loop-resv-preserved c = λ g.
    made-more (λ (x : ResvNo). x.0) (resv_kept g [] blank) c.args.resvs.now c.loop-resv.resv-index _ c.new.result c.loop-resv.rows.items c.push.new.self.items c.loop-resv-test.true (c.loop-resv.invariant g) (c.new.ensures) c.in_ok-push.ensures.items

pub returns : goal.returns
returns c = λ g. c.loop-resv.invariant g ∙ ap (λ xs. map (resv_kept g [] blank) (resv_numbers xs)) (made-all c.args.resvs.now c.loop-resv.resv-index c.loop-resv-test.false)
