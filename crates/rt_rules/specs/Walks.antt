-- Priority inheritance (Sha, Rajkumar and Lehoczky, IEEE Transactions on Computers, 1990): walks from waiting tasks to those that
-- they wait for. `next t` is the task that t waits for.
use Rattle.std.specs.Prelude.{ℕ, zero, suc, List, [], ◌∷◌, length, map, Option, None, Some, filter}
use Rattle.rt_rules.specs.declared.Key.{Key}
use Rattle.rt_rules.specs.Numbers.{has}
use Rattle.rt_rules.specs.Keys.{highest}

-- the tasks that a walk of at most n steps reaches
abbrev pub walk : (ℕ → Option ℕ) → ℕ → Option ℕ → List ℕ
walk next zero o = []
walk next (suc n) None = []
walk next (suc n) (Some u) = u ∷ walk next n (next u)

-- the tasks from which a walk leads to a task
abbrev pub followers : (ℕ → Option ℕ) → List ℕ → ℕ → List ℕ
followers next tasks t = filter (λ u. has t (walk next (length tasks) (next u))) tasks

-- a boosted task has its boost; any other the highest base key among its own and those of its followers
abbrev pub inherited : Option Key → (ℕ → Key) → List ℕ → ℕ → Key
inherited (Some k) base us t = k
inherited None base us t = highest (base t) (map base us)
