-- Tasks that wait, with the keys that they gave.
use Rattle.std.specs.Prelude.{ℕ, List, Option, None, Some}
use Rattle.rt_rules.specs.declared.Key.{Key}
use Rattle.rt_rules.specs.Numbers.{without}

-- the key that each task below the room gave last, and the tasks that wait, in the order of asking
pub record Waiting : Type 0 where
  pub keys : List Key
  pub waiting : List ℕ

-- the list without the task, if one was chosen
abbrev pub left : Option ℕ → List ℕ → List ℕ
left None ts = ts
left (Some t) ts = without t ts
