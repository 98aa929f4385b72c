use Rattle.split_tests.proofs.SeatLaws.{one-stepped, same-cpu}
use Rattle.split_tests.proofs.stepping.step_at.Goals as goal

pub step-requires : goal.step-requires
step-requires g c = (c.requires.seats.each c.args.cpu c.index-seats-cpu.result c.requires.there).0

pub returns-clause-seats : goal.returns-clause-seats
returns-clause-seats g c =
    one-stepped c.args.split.now c.args.seats.now c.args.cpu c.step.new.seat c.index-seats-cpu.result c.requires.seats c.requires.there c.step.ensures.seat
    (same-cpu c.step.result _ _ c.step.ensures.step c.step.ensures.memory)
