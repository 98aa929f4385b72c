-- What a task holds.
use Rattle.std.proofs.Common.{false, true, ℕ, ◌≡◌}
use Rattle.rt_rules.specs.Numbers.{has, is, is_empty}
use Rattle.rt_model.specs.Group.{Group, sems}
use Rattle.rt_model.specs.Holders.{holder, holds}
use Rattle.rt_model.specs.Past.{Past}
use Rattle.rt_rules.proofs.BoolLaws.{both, clash, unless}
use Rattle.rt_rules.proofs.MemberLaws.{empty-none, has-filter}

-- who holds nothing is no holder
pub holds-none : (g : Group) (t s : ℕ) (past : Past) → is_empty (holds g t past) ≡ true → has s (sems g) ≡ true → is t (holder g s past) ≡ false
unfolding holds
holds-none g t s past h there = unless _ (λ k. clash (has s (holds g t past)) (found k) (empty-none s (holds g t past) h))
  where
    found : is t (holder g s past) ≡ true → has s (holds g t past) ≡ true
    found k = rw (has-filter (λ r. is t (holder g r past)) s (sems g), there, k)

-- a holder holds
pub holds-one : (g : Group) (t s : ℕ) (past : Past) → has s (sems g) ≡ true → is t (holder g s past) ≡ true → has s (holds g t past) ≡ true
unfolding holds
holds-one g t s past there h = rw (has-filter (λ r. is t (holder g r past)) s (sems g), there, h)

-- who holds a semaphore is its holder
pub one-holds : (g : Group) (t s : ℕ) (past : Past) → has s (holds g t past) ≡ true → (has s (sems g) ≡ true) × (is t (holder g s past) ≡ true)
unfolding holds
one-holds g t s past h = both _ _ (rw has-filter at h)
