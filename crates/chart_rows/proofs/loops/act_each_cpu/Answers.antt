use Rattle.std.proofs.Common.{◌∙◌}
use Rattle.chart_rows.specs.Rows.{cpu_acted}
use Rattle.chart_rows.proofs.Changed.{changed-all, changed-more}
use Rattle.chart_rows.proofs.loops.act_each_cpu.Goals as goal

pub loop-row-preserved : goal.loop-row-preserved
loop-row-preserved c = λ g m acted unit.
    changed-more (cpu_acted g m) c.args.cpus.now c.loop-row.cpus c.loop-row.row-index c.row-item.result c.act_cpu.new.row c.loop-row-test.true (c.loop-row.invariant g m acted unit) c.row-item.is
    (c.act_cpu.ensures g m acted unit)

pub returns : goal.returns
returns c = λ g m acted unit. c.loop-row.invariant g m acted unit ∙ changed-all (cpu_acted g m) c.args.cpus.now c.loop-row.row-index c.loop-row-test.false
