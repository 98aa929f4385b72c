-- Telling tasks whom they wait for: those that wait at a semaphore wait for its owner.
use Rattle.std.specs.Prelude.{◌≡◌, ◌≢◌, ℕ, true, false, List, [], ◌∷◌, Option, None, Some, IsSome, if◌then◌else◌, slice_index_or, slice_set}
use Rattle.rt_rules.specs.declared.Key.{Key}
use Rattle.rt_rules.specs.Numbers.{has, same}
use Rattle.prio_inherit.specs.Waits.{Waits, next_of}
use Rattle.sem_table.specs.SemTable.{SemTable}
use Rattle.sem_table.specs.Told.{owner_of, waiters_of}

-- these tasks wait for that one
abbrev pub told : ℕ → List ℕ → List (Option ℕ) → List (Option ℕ)
told o [] nexts = nexts
told o (x ∷ xs) nexts = told o xs (slice_set nexts x (Some o))

abbrev pub told_of : Option ℕ → List ℕ → List (Option ℕ) → List (Option ℕ)
told_of None ws nexts = nexts
told_of (Some o) ws nexts = told o ws nexts

-- where the owner of the semaphore is another than before, its waiters are told
abbrev pub retold : Option ℕ → SemTable → ℕ → Waits → Waits
retold before table s w =
    if same before (owner_of table s) then w else (record w { nexts = told_of (owner_of table s) (waiters_of table s) w.nexts })

-- a base key was told of the task
abbrev pub HasBase : List (Option Key) → ℕ → Type 0
HasBase bases t = IsSome (slice_index_or bases t None)

-- whoever is waited for waits for nothing
abbrev pub AreShallow : List (Option ℕ) → Type 0
AreShallow nexts = (t v : ℕ) → next_of nexts t ≡ Some v → next_of nexts v ≡ None

-- these tasks, for which nobody waits, may begin to wait for that one, which waits for nothing
pub record CanTell (o : ℕ) (ws : List ℕ) (bases : List (Option Key)) (nexts : List (Option ℕ)) : Type 0 where
  pub shallow : AreShallow nexts
  pub owner_based : HasBase bases o
  pub owner_waits_not : next_of nexts o ≡ None
  pub owner_outside : has o ws ≡ false
  pub based : (x : ℕ) → has x ws ≡ true → HasBase bases x
  pub awaited_not : (x u : ℕ) → has x ws ≡ true → next_of nexts u ≢ Some x
