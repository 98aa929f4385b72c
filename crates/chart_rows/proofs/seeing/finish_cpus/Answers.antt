use Rattle.std.proofs.Common.{◌∙◌}
use Rattle.rt_plays.specs.Homes.{IsProcessorOf}
use Rattle.rank_afresh.specs.Standing.{group_of}
use Rattle.chart_rows.specs.Rows.{CpuKept, cpu_finished}
use Rattle.chart_rows.proofs.Changed.{changed-all, changed-all-at, changed-more}
use Rattle.chart_rows.proofs.seeing.finish_cpus.Goals as goal

pub finish_cpu-requires : goal.finish_cpu-requires
finish_cpu-requires c =
    let g = group_of c.args.afresh.now in
    let past = c.requires.at.0 in
    changed-all-at (λ (k : CpuKept). IsProcessorOf g k.cpu) (cpu_finished g past) c.args.cpus.now c.loop-row.cpus c.loop-row.row-index c.row-item.result c.requires.cpus c.loop-row-test.true (c.loop-row.invariant past c.requires.at.1) c.row-item.is

pub loop-row-preserved : goal.loop-row-preserved
loop-row-preserved c = λ past at.
    let g = group_of c.args.afresh.now in
    changed-more (cpu_finished g past) c.args.cpus.now c.loop-row.cpus c.loop-row.row-index c.row-item.result c.finish_cpu.new.row c.loop-row-test.true (c.loop-row.invariant past at) c.row-item.is (c.finish_cpu.ensures past at)

pub returns : goal.returns
returns c = λ past at. c.loop-row.invariant past at ∙ changed-all (cpu_finished (group_of c.args.afresh.now) past) c.args.cpus.now c.loop-row.row-index c.loop-row-test.false
