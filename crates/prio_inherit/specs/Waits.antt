-- Tasks that wait for others, their base keys and boosts.
use Rattle.std.specs.Prelude.{◌≡◌, ℕ, false, List, length, Option, None, slice_index_or, unwrap_or}
use Rattle.rt_rules.specs.declared.Key.{Key}
use Rattle.rt_rules.specs.KeyOrder.{lowest_key}
use Rattle.rt_rules.specs.Numbers.{has, numbers_from}
use Rattle.rt_rules.specs.Walks.{walk, followers, inherited}

-- by the number of a task: its base key where one was told, the task that it waits for, and its boost
pub record Waits : Type 0 where
  pub bases : List (Option Key)
  pub nexts : List (Option ℕ)
  pub boosts : List (Option Key)

abbrev pub next_of : List (Option ℕ) → ℕ → Option ℕ
next_of nexts t = slice_index_or nexts t None

abbrev pub boost_of : List (Option Key) → ℕ → Option Key
boost_of boosts t = slice_index_or boosts t None

abbrev pub base_of : List (Option Key) → ℕ → Key
base_of bases t = unwrap_or (slice_index_or bases t None) lowest_key

-- no walk from a task leads back to it
abbrev pub NoWalkComesRound : List (Option ℕ) → Type 0
NoWalkComesRound nexts = (t : ℕ) → has t (walk (next_of nexts) (length nexts) (next_of nexts t)) ≡ false

-- a boosted task has its boost; any other the highest base key among its own and those of the tasks from which a walk leads to it
abbrev pub effective_key : Waits → ℕ → Key
effective_key w t = inherited (boost_of w.boosts t) (base_of w.bases) (followers (next_of w.nexts) (numbers_from 0 (length w.bases)) t) t
