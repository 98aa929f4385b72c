-- A set that holds just the tasks that pass, each with its key, as a heap keeps it: at each task's number its key, where it is in.
use Rattle.std.specs.Prelude.{◌≡◌, ℕ, zero, suc, ◌<◌, Bool, true, ◌&&◌, List, [], ◌∷◌, length, take, Option, None, Some, if◌then◌else◌}
use Rattle.std.specs.Prelude.{slice_set}
use Rattle.rt_rules.specs.declared.Key.{Key}
use Rattle.rt_rules.specs.KeyOrder.{higher}
use Rattle.rt_rules.specs.Distinct.{IsDistinct}
use Rattle.rt_rules.specs.Numbers.{has}
use Rattle.rt_rules.specs.Rankings.{ranked_by, tasks_of}
use Rattle.ready_heap.specs.Row.{key_at}
use Rattle.ready_heap.specs.Ready.{size, IsFirst}
use Rattle.ready_queue.specs.Refreshed.{AgreeBut}

-- the tasks of the list that pass are in, with their keys, and nothing else is
pub record HoldsJust (ts : List ℕ) (key : ℕ → Key) (test : ℕ → Bool) (keys : List (Option Key)) : Type 0 where
  pub room : (t : ℕ) → has t ts ≡ true → t < length keys
  pub is_in : (t : ℕ) → key_at keys t ≡ (if has t ts && test t then Some (key t) else None)

-- what is kept at a task: its key where it passes
abbrev pub kept_key : (ℕ → Key) → (ℕ → Bool) → ℕ → Option Key
kept_key key test t = if test t then Some (key t) else None

-- each of the touched ones is taken out, put in, or given its key now
abbrev pub set_refreshed : (ℕ → Key) → (ℕ → Bool) → List ℕ → List (Option Key) → List (Option Key)
set_refreshed key test [] keys = keys
set_refreshed key test (t ∷ touched) keys = set_refreshed key test touched (slice_set keys t (kept_key key test t))

abbrev pub SetIsRefreshed : Type 0
SetIsRefreshed = (touched ts : List ℕ) (key key' : ℕ → Key) (test test' : ℕ → Bool) (keys : List (Option Key))
    → AgreeBut touched ts key key' test test' → HoldsJust ts key test keys
    → HoldsJust ts key' test' (set_refreshed key' test' touched keys)

-- these tasks are taken out of the set one after the other, each as its first, until there are so many or none is left
abbrev pub AreTaken : ℕ → List (Option Key) → List ℕ → Type 0
AreTaken zero keys us = us ≡ []
AreTaken (suc m) keys [] = size keys ≡ 0
AreTaken (suc m) keys (u ∷ us) = IsFirst higher keys u × AreTaken m (slice_set keys u None) us

abbrev pub FirstAreTheRanking : Type 0
FirstAreTheRanking = (m : ℕ) (ts : List ℕ) (key : ℕ → Key) (test : ℕ → Bool) (keys : List (Option Key)) (us : List ℕ) → IsDistinct ts
    → HoldsJust ts key test keys → AreTaken m keys us → us ≡ take m (tasks_of (ranked_by key test ts))

-- the set without these tasks
abbrev pub set_without : List ℕ → List (Option Key) → List (Option Key)
set_without [] keys = keys
set_without (u ∷ us) keys = set_without us (slice_set keys u None)

-- A set from which tasks were taken out holds the same again once each is put back.
abbrev pub SetIsRestored : Type 0
SetIsRestored = (us ts : List ℕ) (key : ℕ → Key) (test : ℕ → Bool) (keys : List (Option Key))
    → ((t : ℕ) → has t us ≡ true → has t ts ≡ true) → HoldsJust ts key test keys
    → HoldsJust ts key test (set_refreshed key test us (set_without us keys))
