use Rattle.std.proofs.Common.{arith}
use Rattle.rt_model.specs.Group.{group_processors}
use Rattle.rt_plays.specs.Plays.{group_with}
use Rattle.rt_plays.proofs.GroupLimits.{processor-some}
use Rattle.set_runs.proofs.GroupRuns.{all-seated, driven-cells, group-run, unused-count, unused-seats}
use Rattle.set_runs.proofs.group_run.run_group.Goals as goal

pub play_all-requires-clause-seats : goal.play_all-requires-clause-seats
play_all-requires-clause-seats g c κs within =
    unused-seats c.in_ok-site.site.cell (group_processors (group_with c.args.setup.now c.args.group.0)) c.in_ok-site.seats.items c.in_ok-site.ensures.seats

pub close-requires-clause-seats : goal.close-requires-clause-seats
close-requires-clause-seats g c = driven-cells c.in_ok-site.site.cell c.in_ok-site.seats.items c.in_ok-seats.seats.items c.in_ok-seats.ensures

pub play_all-requires-clause-some : goal.play_all-requires-clause-some
play_all-requires-clause-some g c κs within =
    let own = group_with c.args.setup.now c.args.group.0 in
    omega (arith, unused-count c.in_ok-site.site.cell (group_processors own) c.in_ok-site.seats.items c.in_ok-site.ensures.seats, processor-some own c.parts.ensures.valid c.requires)

pub close-requires-clause-all : goal.close-requires-clause-all
close-requires-clause-all g c =
    all-seated c.in_ok-site.site.cell c.args.setup.now c.args.group.0 c.in_ok-site.seats.items c.in_ok-seats.seats.items
    c.in_ok-site.ensures.seats c.in_ok-seats.ensures c.in_ok-site.ensures.about

pub returns : goal.returns
returns g c =
    group-run c.in_ok-site.site.cell c.args.setup.now c.args.group.0 c.in_ok-site.seats.items c.in_ok-seats.seats.items
    c.in_ok-site.ensures.seats c.in_ok-seats.ensures c.close.result c.in_ok-site.ensures.about c.close.ensures.about c.close.ensures.begun c.close.ensures.later c.close.ensures.whole
