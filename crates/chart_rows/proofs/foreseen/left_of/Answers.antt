use Rattle.std.proofs.Common.{ap}
use Rattle.rank_afresh.specs.Standing.{group_of}
use Rattle.chart_rows.specs.Units.{number_of_resv}
use Rattle.chart_rows.proofs.RowParts.{resv-of}
use Rattle.chart_rows.proofs.foreseen.left_of.Goals as goal

pub left-requires-clause-low : goal.left-requires-clause-low
left-requires-clause-low c = (resv-of (group_of c.args.afresh.now) c.in-Some.resv.0 (c.requires.listed c.in-Some.resv.0 (ap number_of_resv c.in-Some.is))).low

pub left-requires-clause-high : goal.left-requires-clause-high
left-requires-clause-high c = (resv-of (group_of c.args.afresh.now) c.in-Some.resv.0 (c.requires.listed c.in-Some.resv.0 (ap number_of_resv c.in-Some.is))).high

pub left-requires-clause-here : goal.left-requires-clause-here
left-requires-clause-here c = (resv-of (group_of c.args.afresh.now) c.in-Some.resv.0 (c.requires.listed c.in-Some.resv.0 (ap number_of_resv c.in-Some.is))).here
