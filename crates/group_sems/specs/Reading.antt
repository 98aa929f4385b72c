-- What is read off the semaphores and keys that are kept is what the rules say.
use Rattle.std.specs.Prelude.{◌≡◌, ℕ, true, not, ◌&&◌, ◌==◌, Option, None, Some, is_some, if◌then◌else◌}
use Rattle.rt_task.specs.RuleWords.{is_stacked}
use Rattle.rt_rules.specs.declared.history.Reply.{Reply}
use Rattle.rt_rules.specs.declared.history.Reply.TheVariants as replies
use Rattle.rt_rules.specs.Numbers.{has, is, is_empty}
use Rattle.rt_rules.specs.SemState.{Asks, Frees}
use Rattle.rt_model.specs.Answers.{is_granted as is_granted_by_rules, nests}
use Rattle.rt_model.specs.BaseKeys.{base_key}
use Rattle.rt_model.specs.EffectiveKeys.{effective_key}
use Rattle.rt_model.specs.Group.{Group, declares, protocol, sems, task, tasks, users}
use Rattle.rt_model.specs.Holders.{awaits, holder, holds, last_granted}
use Rattle.rt_model.specs.Past.{Past, sem_act}
use Rattle.rt_model.specs.StackPolicy.{passes_srp}
use Rattle.rt_laws.specs.EveryPast.{EveryMove, EveryPast}
use Rattle.rt_changes.specs.Owners.{owner}
use Rattle.prio_inherit.specs.Waits as kept_keys
use Rattle.sem_table.specs.Asked.{is_granted}
use Rattle.sem_table.specs.Released.{after_release}
use Rattle.sem_table.specs.Told.{awaits_of, held_of, owner_of, passes_of, state_of}
use Rattle.sem_table.specs.Telling.{IsServedBy}
use Rattle.group_sems.specs.GroupSems.{GroupSems}
use Rattle.group_sems.specs.Refusing.{lock_refusal, unlock_refusal}
use Rattle.group_sems.specs.Kept.{KeepsLocks, KeepsWaits}

-- The effective key of each task.
abbrev pub KeyIsRead : Type 0
KeyIsRead = EveryPast (λ g past. (w : kept_keys.Waits) (t : ℕ) → has t (tasks g) ≡ true → KeepsWaits g past w
    → kept_keys.effective_key w t ≡ effective_key g t past)

-- why a task may not ask for a semaphore, and why it may not free one
abbrev pub lock_refused : Group → ℕ → ℕ → Past → Option Reply
lock_refused g s t past =
    if not (declares g t s) then Some replies.NotDeclared else (if nests g (protocol g s) s t past then Some replies.Nested else None)

abbrev pub unlock_refused : Group → ℕ → ℕ → Past → Option Reply
unlock_refused g s t past =
    if not (is t (holder g s past)) then Some replies.NotHeld else
    (if is_stacked (protocol g s) && not (is s (last_granted g t past)) then Some replies.NotLast else None)

abbrev pub LockRefusalIsRead : Type 0
LockRefusalIsRead = EveryPast (λ g past. (v : GroupSems) (t s : ℕ) → has t (tasks g) ≡ true → has s (sems g) ≡ true → KeepsLocks g past v
    → lock_refusal g.setup v.table t s ≡ lock_refused g s t past)

-- Of a semaphore that nobody of the group declares as well: nobody holds it.
abbrev pub UnlockRefusalIsRead : Type 0
UnlockRefusalIsRead = EveryPast (λ g past. (v : GroupSems) (t s : ℕ) → has t (tasks g) ≡ true → has s (sems g) ≡ true
    → KeepsLocks g past v → unlock_refusal g.setup v.table t s ≡ unlock_refused g s t past)

-- Whether a task holds nothing, and whether it waits.
abbrev pub HoldingIsRead : Type 0
HoldingIsRead = EveryPast (λ g past. (v : GroupSems) (t : ℕ) → has t (tasks g) ≡ true → KeepsLocks g past v
    → ((held_of v.table t == 0) ≡ is_empty (holds g t past)) × (is_some (awaits_of v.table t) ≡ is_some (awaits g t past)))

-- Whether a task passes the test of SRP, with its relative deadline.
abbrev pub PassingIsRead : Type 0
PassingIsRead = EveryPast (λ g past. (v : GroupSems) (t : ℕ) → has t (tasks g) ≡ true → KeepsLocks g past v
    → passes_of v.table t (task g t).rel_deadline ≡ passes_srp g t past)

-- Who holds a semaphore.
abbrev pub HolderIsRead : Type 0
HolderIsRead = EveryPast (λ g past. (v : GroupSems) (s : ℕ) → has s (sems g) ≡ true → KeepsLocks g past v
    → (state_of v.table s).holder ≡ holder g s past)

-- The owner of a semaphore that a task of the group declares.
abbrev pub OwnerIsRead : Type 0
OwnerIsRead = EveryPast (λ g past. (v : GroupSems) (s u : ℕ) → has s (sems g) ≡ true → has u (users g s) ≡ true → KeepsLocks g past v
    → owner_of v.table s ≡ owner g s past)

-- Whether a request is granted, and whom a release serves.
abbrev pub GrantIsRead : Type 0
GrantIsRead = EveryMove (λ g e past. (v : GroupSems) (t s : ℕ) → sem_act e ≡ Asks t s → KeepsLocks g past v
    → is_granted t (base_key g t past) s v.table ≡ is_granted_by_rules g (protocol g s) s t past)

abbrev pub ServedIsRead : Type 0
ServedIsRead = EveryMove (λ g e past. (v : GroupSems) (t s : ℕ) → sem_act e ≡ Frees t s → KeepsLocks g past v
    → IsServedBy g e past (after_release t s v.table).served)
