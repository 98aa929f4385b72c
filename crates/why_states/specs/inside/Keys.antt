-- Keys by the priorities of tasks, as they are under P-FP.
use Rattle.std.specs.Prelude.{ℕ, List, filter, map}
use Rattle.rt_rules.specs.declared.Key.{Key}
use Rattle.rt_rules.specs.KeyOrder.{lowest_key}
use Rattle.rt_rules.specs.Keys.{highest}
use Rattle.rt_model.specs.Group.{Group, declares, task}

module _ (g : Group) where
  abbrev pub key_of_priority : ℕ → Key
  key_of_priority t = record { band = 2; major = (task g t).prio; minor = t }

  -- the highest key of those of some tasks that declare a semaphore
  abbrev pub highest_of : ℕ → List ℕ → Key
  highest_of s ts = highest lowest_key (map key_of_priority (filter (λ t. declares g t s) ts))
