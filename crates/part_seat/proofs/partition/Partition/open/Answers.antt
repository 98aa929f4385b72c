use Rattle.std.proofs.Common.{◌≡◌, false, sym, refl, subst}
use Rattle.part_player.specs.Players.{PlayerOf, past_at}
use Rattle.part_seat.specs.Partitions.{IsMeeting}
use Rattle.part_seat.proofs.OpenLaws.{unused-meets}
use Rattle.part_seat.proofs.partition.Partition.open.Goals as goal

pub invariant_of-result : goal.invariant_of-result
invariant_of-result c =
    subst (λ (x : PlayerOf). (x.begun ≡ false) × IsMeeting x.setup x.cpu c.args.seats.items (past_at x)) (sym c.in_ok-player.ensures)
    (refl, unused-meets c.args.setup.now c.args.cpu.0 c.args.seats.items c.requires.seats)
