use Rattle.std.proofs.Common.{sym, subst}
use Rattle.rank_afresh.specs.Standing.{group_of}
use Rattle.chart_rows.proofs.RowParts.{IsResvOf, resv-of}
use Rattle.chart_rows.proofs.seeing.finish_resv.Goals as goal

pub left-left-requires-clause-low : goal.left-left-requires-clause-low
left-left-requires-clause-low c = (subst (IsResvOf (group_of c.args.afresh.now)) (sym c.resv.ensures) (resv-of (group_of c.args.afresh.now) c.args.row.now.resv c.requires.resv)).low

pub left-left-requires-clause-high : goal.left-left-requires-clause-high
left-left-requires-clause-high c = (subst (IsResvOf (group_of c.args.afresh.now)) (sym c.resv.ensures) (resv-of (group_of c.args.afresh.now) c.args.row.now.resv c.requires.resv)).high

pub left-left-requires-clause-here : goal.left-left-requires-clause-here
left-left-requires-clause-here c = (subst (IsResvOf (group_of c.args.afresh.now)) (sym c.resv.ensures) (resv-of (group_of c.args.afresh.now) c.args.row.now.resv c.requires.resv)).here
