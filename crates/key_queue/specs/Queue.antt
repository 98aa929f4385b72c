-- What the queue keeps.
use Rattle.std.specs.Prelude.{◌≡◌, ℕ, ◌+◌, ◌^◌, ◌<◌, ◌≤◌, true, false, ◌==◌, List, [], ◌∷◌, length, All, map, if◌then◌else◌}
use Rattle.std.specs.Ordering.{nat_cmp, ordering_then}
use Rattle.std.specs.declared.cmp.Ordering.{Ordering}
use Rattle.std.specs.declared.cmp.Reverse.{Reverse}
use Rattle.std.specs.BinaryHeap.{IsHeap}
use Rattle.rt_rules.specs.declared.Key.{Key}
use Rattle.rt_rules.specs.KeyOrder.{equal_keys}
use Rattle.rt_rules.specs.Distinct.{IsDistinct}
use Rattle.rt_rules.specs.Numbers.{has}
use Rattle.key_queue.specs.declared.queue.Waiter.{Waiter}
use Rattle.sem_laws.specs.KeptKeys.{key_at}

-- the order of the heap: the highest key is the greatest
abbrev pub later : Reverse Waiter → Reverse Waiter → Ordering
later x y = ordering_then (nat_cmp y.0.band x.0.band) (ordering_then (nat_cmp y.0.major x.0.major)
    (ordering_then (nat_cmp y.0.minor x.0.minor) (nat_cmp y.0.task x.0.task)))

abbrev pub tasks_of : List (Reverse Waiter) → List ℕ
tasks_of ws = map (λ (w : Reverse Waiter). w.0.task) ws

abbrev pub key_of : Reverse Waiter → Key
key_of w = record { band = w.0.band; major = w.0.major; minor = w.0.minor }

-- how often a number stands in a list
abbrev pub copies : ℕ → List ℕ → ℕ
copies t [] = 0
copies t (x ∷ xs) = (if t == x then 1 else 0) + copies t xs

-- the heap holds the tasks that wait, each with the key that it gave, and these keys differ
pub record IsQueue (keys : List Key) (room : ℕ) (waiting : List ℕ) (items : List (Reverse Waiter)) (capacity size : ℕ) : Type 0 where
  pub keys_length : length keys ≡ room
  pub limit : room < 2 ^ 32
  pub once : IsDistinct waiting
  pub below : (t : ℕ) → has t waiting ≡ true → t < room
  pub reserved : room ≤ capacity
  pub apart : (t u : ℕ) → has t waiting ≡ true → has u waiting ≡ true → t == u ≡ false → equal_keys (key_at keys t) (key_at keys u) ≡ false
  pub size_is : size ≡ length waiting
  pub counted : (t : ℕ) → copies t (tasks_of items) ≡ copies t waiting
  pub keyed : All (λ w. key_at keys w.0.task ≡ key_of w) items
  pub ordered : IsHeap later items
