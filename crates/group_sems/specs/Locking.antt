-- What an accepted Lock and an accepted Unlock make of the semaphores and the keys, and what they rest on.
use Rattle.std.specs.Prelude.{◌≡◌, ◌<◌, ◌≤◌, ℕ, Bool, true, false, List, [], ◌∷◌, length, Option, None, Some, slice_set}
use Rattle.rt_rules.specs.declared.Key.{Key}
use Rattle.rt_task.specs.declared.Parts.{Parts}
use Rattle.prio_inherit.specs.Waits.{Waits}
use Rattle.sem_table.specs.Asked.{after_ask, is_granted}
use Rattle.sem_table.specs.Conditions.{MayAsk, MayRelease}
use Rattle.sem_table.specs.Released.{after_release}
use Rattle.sem_table.specs.SemTable.{SemTable}
use Rattle.sem_table.specs.Told.{awaits_of, owner_of, waiters_of}
use Rattle.mpcp_ceilings.specs.Ceilings.{CeilingTable}
use Rattle.group_sems.specs.BoostKeys.{IsSemOf, boost_now}
use Rattle.group_sems.specs.GroupSems.{GroupSems}
use Rattle.group_sems.specs.Telling.{CanTell, HasBase, retold}

abbrev pub with_boost : ℕ → Option Key → Waits → Waits
with_boost t o w = record w { boosts = slice_set w.boosts t o }

abbrev pub with_next : ℕ → Option ℕ → Waits → Waits
with_next t o w = record w { nexts = slice_set w.nexts t o }

-- a task that asked holds the semaphore and may be boosted, or waits for the owner
abbrev pub asked_waits : Bool → Option Key → ℕ → ℕ → Option ℕ → SemTable → Waits → Waits
asked_waits true boost t s before table w = retold before table s (with_boost t boost w)
asked_waits false boost t s before table w = with_next t (owner_of table s) w

abbrev pub after_lock : Parts → ℕ → ℕ → Key → ℕ → GroupSems → GroupSems
after_lock p clock t key s v = record v {
  table = after_ask t key s v.table;
  waits = asked_waits (is_granted t key s v.table) (boost_now p v.ceilings clock s t) t s (owner_of v.table s)
      (after_ask t key s v.table) v.waits;
}

-- a task that is served waits no longer, and may be boosted
abbrev pub served_waits : Parts → CeilingTable → ℕ → ℕ → Option ℕ → Waits → Waits
served_waits p ceilings clock s None w = w
served_waits p ceilings clock s (Some u) w = with_boost u (boost_now p ceilings clock s u) (with_next u None w)

-- the keys once the task has freed the semaphore, before the waiters are told
abbrev pub freed_waits : Parts → ℕ → ℕ → ℕ → GroupSems → Waits
freed_waits p clock t s v = served_waits p v.ceilings clock s (after_release t s v.table).served (with_boost t None v.waits)

abbrev pub after_unlock : Parts → ℕ → ℕ → ℕ → GroupSems → GroupSems
after_unlock p clock t s v = record v {
  table = after_release t s v.table;
  waits = retold (owner_of v.table s) (after_release t s v.table) s (freed_waits p clock t s v);
}

-- the waiters of a semaphore may be told of its owner, and fit into a list
pub record CanRetell (table : SemTable) (s : ℕ) (bases : List (Option Key)) (nexts : List (Option ℕ)) : Type 0 where
  pub few : length (waiters_of table s) ≤ length bases
  pub tell : (o : ℕ) → owner_of table s ≡ Some o → CanTell o (waiters_of table s) bases nexts

-- a base key was told of a task of the set
pub record CanServe (p : Parts) (u : ℕ) (bases : List (Option Key)) : Type 0 where
  pub based : HasBase bases u
  pub low : 1 ≤ u
  pub high : u ≤ length p.tasks

pub record CanLock (p : Parts) (t : ℕ) (key : Key) (s : ℕ) (v : GroupSems) : Type 0 where
  pub task : t < length v.table.rows
  pub sem : s < length v.table.sems
  pub idle : awaits_of v.table t ≡ None
  pub may : MayAsk t key s v.table
  pub sem_there : IsSemOf p v.ceilings s
  pub based : CanServe p t v.waits.bases
  pub queue : is_granted t key s v.table ≡ false → (o : ℕ) → owner_of (after_ask t key s v.table) s ≡ Some o
      → CanTell o (t ∷ []) v.waits.bases v.waits.nexts
  pub tell : is_granted t key s v.table ≡ true → CanRetell (after_ask t key s v.table) s v.waits.bases v.waits.nexts

pub record CanUnlock (p : Parts) (clock t s : ℕ) (v : GroupSems) : Type 0 where
  pub task : t < length v.table.rows
  pub sem : s < length v.table.sems
  pub may : MayRelease t s v.table
  pub sem_there : IsSemOf p v.ceilings s
  pub based : HasBase v.waits.bases t
  pub served : (u : ℕ) → (after_release t s v.table).served ≡ Some u → CanServe p u v.waits.bases
  pub tell : CanRetell (after_release t s v.table) s (freed_waits p clock t s v).bases
      (freed_waits p clock t s v).nexts
