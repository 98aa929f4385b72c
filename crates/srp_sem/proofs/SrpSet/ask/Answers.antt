use Rattle.std.proofs.Common.{◌≡◌, ◌<◌, false, length, arith}
use Rattle.rt_rules.specs.Numbers.{has}
use Rattle.srp_sem.specs.Listed.{pairs}
use Rattle.srp_sem.specs.Pairs.{sems_of}
use Rattle.srp_sem.proofs.Acts.{has-position, length-pairs}
use Rattle.srp_sem.proofs.SrpSet.ask.Goals as goal

pub put_first-requires : goal.put_first-requires
put_first-requires c =
    let known : c.args.sem < length c.self.inside.ceilings.items = rw (← c.self.view_is) at c.requires.known in
    let free : has c.args.sem (sems_of (pairs c.self.inside.held.items)) ≡ false = rw (← c.self.view_is) at c.requires.free in
    omega (arith, has-position _ _ _ _ c.self.invariant known free, length-pairs c.self.inside.held.items)
