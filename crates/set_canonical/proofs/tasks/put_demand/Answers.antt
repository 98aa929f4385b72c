use Rattle.std.proofs.Common.{append_assoc}
use Rattle.set_canonical.proofs.tasks.put_demand.Goals as goal

pub returns : goal.returns
returns c = simp (c.in_ok-put_number-3.ensures, c.in_ok-put_number-2.ensures, c.in_ok-put_number.ensures, c.from.ensures, append_assoc)
