use Rattle.std.proofs.Common.{◌∙◌}
use Rattle.rt_plays.specs.Homes.{IsProcessorOf}
use Rattle.rank_afresh.specs.Standing.{group_of}
use Rattle.chart_rows.specs.Rows.{CpuKept, cpu_closed}
use Rattle.chart_rows.proofs.Changed.{changed-all, changed-all-at, changed-more}
use Rattle.chart_rows.proofs.seeing.close_cpus.Goals as goal

pub close_cpu-requires : goal.close_cpu-requires
close_cpu-requires c =
    let g = group_of c.args.afresh.now in
    let past = c.requires.at.0 in
    changed-all-at (λ (k : CpuKept). IsProcessorOf g k.cpu) (cpu_closed g past) c.args.cpus.now c.loop-row.cpus c.loop-row.row-index c.row-item.result c.requires.cpus c.loop-row-test.true (c.loop-row.invariant past c.requires.at.1) c.row-item.is

pub loop-row-preserved : goal.loop-row-preserved
loop-row-preserved c = λ past at.
    let g = group_of c.args.afresh.now in
    changed-more (cpu_closed g past) c.args.cpus.now c.loop-row.cpus c.loop-row.row-index c.row-item.result c.close_cpu.new.row c.loop-row-test.true (c.loop-row.invariant past at) c.row-item.is (c.in_ok-close_cpu.ensures past at)

pub returns : goal.returns
returns c = λ past at. c.loop-row.invariant past at ∙ changed-all (cpu_closed (group_of c.args.afresh.now) past) c.args.cpus.now c.loop-row.row-index c.loop-row-test.false
