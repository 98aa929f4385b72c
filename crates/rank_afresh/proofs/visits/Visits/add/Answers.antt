use Rattle.std.proofs.Common.{◌≡◌, ℕ, false, refl, sym, ap, ◌∙◌, subst, arith}
use Rattle.rt_rules.specs.Numbers.{has}
use Rattle.rt_rules.proofs.DistinctLaws.{distinct-append}
use Rattle.rank_afresh.specs.Visits.{HasMore, VisitFacts}
use Rattle.rank_afresh.proofs.Visiting.{below-more, has-more, has-new, room-left}
use Rattle.rank_afresh.proofs.visits.Visits.add.Goals as goal
use Rattle.rank_afresh.proofs.visits.Visits.add.Goals.{After-has}

-- it is none of the positions
is-new : (c : After-has) → c.has.result ≡ false → has c.in-Some.position c.self.inside.positions.items ≡ false
is-new c h = ap (λ (v : VisitFacts). has c.in-Some.position v.positions) c.self.view_is ∙ sym c.has.ensures ∙ h

pub push_reserved-requires : goal.push_reserved-requires
push_reserved-requires c =
    let new = is-new (goal.at.push_reserved-requires c).After-has (grind (arith, c.if-not-has.true)) in
    let some = room-left c.in-Some.position c.self.inside.count c.self.inside.positions.items c.self.invariant.0 c.self.invariant.1 c.if-position-self.true new in
    omega (arith, some, c.self.invariant.2, c.self.inside.positions.ok.0)

pub invariant_of-self : goal.invariant_of-self
invariant_of-self c =
    let n : ℕ = c.in-Some.position in
    let new = is-new (goal.at.invariant_of-self c).After-has (grind (arith, c.if-not-has.true)) in
    rw c.push_reserved.ensures.items (
      distinct-append n c.self.inside.positions.items c.self.invariant.0 new,
      below-more n c.self.inside.count c.self.inside.positions.items c.self.invariant.1 c.if-position-self.true,
      omega (arith, c.self.invariant.2, c.push_reserved.ensures.capacity),
    )

pub returns-then-not-has-clause-more : goal.returns-then-not-has-clause-more
returns-then-not-has-clause-more c =
    subst (λ (v : VisitFacts). HasMore v (record { count = c.self.inside.count; task_homes = c.self.inside.task_homes.items; cpu_homes = c.self.inside.cpu_homes.items; positions = c.push_reserved.new.self.items })) c.self.view_is
    (record { stay = λ m h. rw c.push_reserved.ensures.items (has-more c.in-Some.position c.self.inside.positions.items m h); rest = refl })

pub returns-then-not-has-clause-added : goal.returns-then-not-has-clause-added
returns-then-not-has-clause-added c = λ n here low.
    let same : n ≡ c.in-Some.position = grind (arith, here, c.in-Some.is) in
    rw (c.push_reserved.ensures.items, same) (has-new c.in-Some.position c.self.inside.positions.items)
