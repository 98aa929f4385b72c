use Rattle.std.proofs.Common.{◌≡◌, ◌<◌, ℕ, true, length, subst, arith}
use Rattle.rt_base.specs.TaskNos.{numbers}
use Rattle.rt_rules.specs.Numbers.{has}
use Rattle.rank_afresh.specs.Visits.{AreAllVisited}
use Rattle.rank_afresh.proofs.Visiting.{all-visited, listed-alone}
use Rattle.rank_afresh.proofs.visits.Visits.list.Goals as goal

pub returns-then-len-eq1-clause-visited : goal.returns-then-len-eq1-clause-visited
returns-then-len-eq1-clause-visited c =
    let one : length c.self.inside.positions.items ≡ 1 = omega (arith, c.if-len-eq1.true, c.len.ensures, c.self.inside.positions.ok.0) in
    let below : (m : ℕ) → has m c.self.inside.positions.items ≡ true → m < 1 = λ m h. let b = c.self.invariant.1 m h in omega (arith, b, c.if-self-eq1.true) in
    all-visited (numbers c.args.touched.now) (numbers c.args.changed.now) c.args.ran c.args.self.now
    (subst AreAllVisited c.self.view_is (λ n low. listed-alone c.self.inside.positions.items one below n (omega (arith, low, c.if-self-eq1.true))))
