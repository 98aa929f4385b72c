use Rattle.std.proofs.Common.{◌∙◌, map, sym, ap, subst}
use Rattle.rt_plays.specs.Homes.{IsProcessorOf}
use Rattle.rank_afresh.specs.Standing.{group_of}
use Rattle.chart_rows.specs.inside.Plays.{played_shown}
use Rattle.chart_rows.specs.Rows.{CpuKept, played}
use Rattle.chart_rows.proofs.Changed.{made-all}
use Rattle.chart_rows.proofs.RowParts.{mapped-more}
use Rattle.chart_rows.proofs.seeing.plays.Goals as goal

pub play_of-requires : goal.play_of-requires
play_of-requires c =
    subst (λ (k : CpuKept). IsProcessorOf (group_of c.args.afresh.now) k.cpu) (sym c.row-item.is) (c.requires c.loop-row.row-index c.row-item.result c.loop-row-test.true)

pub loop-row-preserved : goal.loop-row-preserved
loop-row-preserved c = λ past at.
    let g = group_of c.args.afresh.now in
    mapped-more played_shown (played g past) c.args.cpus.now c.loop-row.row-index c.row-item.result c.loop-row.plays.items c.push.new.self.items c.play_of.result c.loop-row-test.true (c.loop-row.invariant past at)
    (c.play_of.ensures past at ∙ ap (played g past) c.row-item.is) c.in_ok-push.ensures.items

pub returns : goal.returns
returns c = λ past at. c.loop-row.invariant past at ∙ ap (map (played (group_of c.args.afresh.now) past)) (made-all c.args.cpus.now c.loop-row.row-index c.loop-row-test.false)
