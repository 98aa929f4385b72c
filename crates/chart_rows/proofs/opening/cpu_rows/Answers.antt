use Rattle.std.proofs.Common.{◌∙◌, [], map, ap}
use Rattle.rt_base.specs.declared.CpuNo.{CpuNo}
use Rattle.chart_cells.specs.Cells.{cpu_numbers}
use Rattle.chart_cells.specs.KeptFirst.{kept_cpu}
use Rattle.chart_rows.specs.Rows.{cpu_kept}
use Rattle.chart_rows.specs.Strips.{blank}
use Rattle.chart_rows.proofs.Changed.{made-all, made-more}
use Rattle.chart_rows.proofs.opening.cpu_rows.Goals as goal

pub loop-cpu-preserved : goal.loop-cpu-preserved
unfolding kept_cpu
loop-cpu-preserved c = λ g.
    made-more (λ (x : CpuNo). x.0) (cpu_kept g [] blank) c.args.cpus.now c.loop-cpu.cpu-index _ c.new.result c.loop-cpu.rows.items c.push.new.self.items c.loop-cpu-test.true (c.loop-cpu.invariant g) (c.new.ensures) c.in_ok-push.ensures.items

pub returns : goal.returns
returns c = λ g. c.loop-cpu.invariant g ∙ ap (λ xs. map (cpu_kept g [] blank) (cpu_numbers xs)) (made-all c.args.cpus.now c.loop-cpu.cpu-index c.loop-cpu-test.false)
