use Rattle.split_run.proofs.Driving.{seats-driven}
use Rattle.split_run.proofs.drive.drive_all.Goals as goal

pub returns : goal.returns
returns g c =
    seats-driven c.args.split.now c.args.seats.items c.requires c.in_ok-runs.runs.items c.in_ok-runs.ensures (λ v. v.items) c.all_driven.result c.all_driven.ensures
