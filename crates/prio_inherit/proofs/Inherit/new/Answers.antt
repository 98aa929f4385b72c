use Rattle.std.proofs.Common.{arith}
use Rattle.prio_inherit.proofs.Counting.{counted-none}
use Rattle.prio_inherit.proofs.Settling.{inherit-none, numbers-none}
use Rattle.prio_inherit.proofs.Inherit.new.Goals as goal

pub invariant_of-result : goal.invariant_of-result
invariant_of-result c = rw (c.in_ok-no_keys.ensures, c.in_ok-no_tasks.ensures, c.in_ok-no_keys-2.ensures, c.in_ok-lowest_keys.ensures, c.in_ok-no_counts.ensures, numbers-none) record {
  inherit = inherit-none c.args.room;
  counted = counted-none c.args.room (omega (arith, c.ranges.room.fits));
}

pub returns : goal.returns
returns c = rw (c.in_ok-no_keys.ensures, c.in_ok-no_tasks.ensures, c.in_ok-no_keys-2.ensures, numbers-none)
