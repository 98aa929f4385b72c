-- What is kept of the keys: each task has the highest of its base key and the keys of those that wait for it.
use Rattle.std.specs.Prelude.{◌≡◌, ℕ, ◌<◌, false, ◌⊎◌, Option, Some, List, length, if◌then◌else◌}
use Rattle.rt_rules.specs.declared.Key.{Key}
use Rattle.rt_rules.specs.KeyOrder.{higher}
use Rattle.sem_laws.specs.KeptKeys.{key_at}
use Rattle.rt_rules.specs.Numbers.{is}
use Rattle.prio_inherit.specs.Waits.{next_of, base_of, NoWalkComesRound}

-- the key k is the highest of a base key and of the keys of the tasks below the room that wait for t
pub record IsTop (room : ℕ) (next : ℕ → Option ℕ) (key : ℕ → Key) (base : Key) (t : ℕ) (k : Key) : Type 0 where
  pub own : higher base k ≡ false
  pub waits : (u : ℕ) → u < room → next u ≡ Some t → higher (key u) k ≡ false
  pub among : (k ≡ base) ⊎ ((u : ℕ) × (u < room) × (next u ≡ Some t) × (k ≡ key u))

abbrev pub IsLocal : List (Option Key) → List (Option ℕ) → List Key → ℕ → Type 0
IsLocal bases nexts keys t = IsTop (length nexts) (next_of nexts) (key_at keys) (base_of bases t) t (key_at keys t)

pub record IsInherit (bases : List (Option Key)) (nexts : List (Option ℕ)) (boosts : List (Option Key)) (keys : List Key) : Type 0 where
  pub bases_length : length bases ≡ length nexts
  pub boosts_length : length boosts ≡ length nexts
  pub keys_length : length keys ≡ length nexts
  pub within : (t v : ℕ) → next_of nexts t ≡ Some v → v < length nexts
  pub acyclic : NoWalkComesRound nexts
  pub local : (t : ℕ) → t < length nexts → IsLocal bases nexts keys t

-- the same while the keys are brought up to date along a walk: all but the task that the walk has come to have theirs
pub record IsSettling (bases : List (Option Key)) (nexts : List (Option ℕ)) (keys : List Key) (at : Option ℕ) : Type 0 where
  pub keys_length : length keys ≡ length nexts
  pub within : (t v : ℕ) → next_of nexts t ≡ Some v → v < length nexts
  pub acyclic : NoWalkComesRound nexts
  pub at_within : (v : ℕ) → at ≡ Some v → v < length nexts
  pub local : (t : ℕ) → t < length nexts → is t at ≡ false → IsLocal bases nexts keys t

-- the same while the keys that are lower than one are raised to it: the task that the walk has come to has its key once this one is joined
pub record IsRaising (bases : List (Option Key)) (nexts : List (Option ℕ)) (keys : List Key) (at : Option ℕ) (key : Key) : Type 0 where
  pub settling : IsSettling bases nexts keys at
  pub joined : (t : ℕ) → at ≡ Some t → IsTop (length nexts) (next_of nexts) (key_at keys) (base_of bases t) t
      (if higher key (key_at keys t) then key else key_at keys t)
