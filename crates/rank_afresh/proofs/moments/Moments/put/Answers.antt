use Rattle.std.proofs.Common.{◌<◌, List, ℕ, ap, arith, length}
use Rattle.std.specs.Prelude.{Option}
use Rattle.rank_afresh.proofs.Due.{least-put}
use Rattle.rank_afresh.proofs.moments.Moments.put.Goals as goal

pub invariant_of-self : goal.invariant_of-self
invariant_of-self c =
    let same = ap (λ (xs : List (Option ℕ)). length xs) c.self.view_is in
    let inside : c.args.task.0 < length c.self.inside.ticks.items = omega (arith, c.requires, same) in
    least-put c.self.inside.next c.earlier-self-inside.result c.self.inside.ticks.items c.args.task.0 c.args.moment inside c.self.invariant c.earlier-self-inside.ensures.low c.earlier-self-inside.ensures.least
