use Rattle.std.proofs.Common.{arith}
use Rattle.set_read.proofs.plain_bodies.piece_counted.Goals as goal

pub returns-in_err-op : goal.returns-in_err-op
returns-in_err-op c names =
    let op = c.in_err-op.ensures names in
    grind arith

pub returns : goal.returns
returns c names =
    let op = c.in_ok-op.ensures names in
    grind arith
