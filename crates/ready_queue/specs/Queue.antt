-- The tasks that are in, in the order of their keys, and the first of them.
use Rattle.std.specs.Prelude.{◌≡◌, ℕ, Bool, List, length, map, take, Option, None, if◌then◌else◌, is_some, unwrap_or, slice_index_or}
use Rattle.rt_rules.specs.declared.Key.{Key}
use Rattle.rt_rules.specs.KeyOrder.{lowest_key}
use Rattle.rt_rules.specs.Keys.{Ranked}
use Rattle.rt_rules.specs.Numbers.{numbers_from, has}
use Rattle.rt_rules.specs.Rankings.{ranked_by, tasks_of}
use Rattle.ready_heap.specs.Row.{key_at}

-- how many of the tasks are the first ones, and at each task's number its key, where it is in
pub record Queue : Type 0 where
  pub most : ℕ
  pub keys : List (Option Key)

abbrev pub key_in : List (Option Key) → ℕ → Key
key_in keys t = unwrap_or (key_at keys t) lowest_key

abbrev pub is_in : List (Option Key) → ℕ → Bool
is_in keys t = is_some (key_at keys t)

abbrev pub in_order : List (Option Key) → List Ranked
in_order keys = ranked_by (key_in keys) (is_in keys) (numbers_from 0 (length keys))

abbrev pub first_tasks : ℕ → List (Option Key) → List ℕ
first_tasks most keys = take most (tasks_of (in_order keys))

-- the task is one of the first ones
abbrev pub is_first : Queue → ℕ → Bool
is_first q t = has t (first_tasks q.most q.keys)

-- ---- how the queue keeps them

-- tasks with the keys that are kept for them
abbrev pub ranked_with : List Key → List ℕ → List Ranked
ranked_with kept ts = map (λ t. record { key = slice_index_or kept t lowest_key; task = t }) ts

-- the first tasks stand in order beside the rest
pub record IsSplit (q : Queue) (top : List Ranked) (rest : List (Option Key)) : Type 0 where
  pub same_room : length rest ≡ length q.keys
  pub top_is : top ≡ take q.most (in_order q.keys)
  pub rest_are : (t : ℕ) → key_at rest t ≡ (if has t (tasks_of top) then None else key_at q.keys t)
