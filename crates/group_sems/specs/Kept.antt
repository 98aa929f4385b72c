-- What is kept of a group's semaphores and of the keys of its tasks is what the rules say of its past.
use Rattle.std.specs.Prelude.{◌≡◌, ℕ, ◌+◌, true, false, List, [], length, Option, None, Some, slice_index_or}
use Rattle.rt_rules.specs.declared.Key.{Key}
use Rattle.rt_rules.specs.Numbers.{has}
use Rattle.rt_model.specs.BaseKeys.{base_key}
use Rattle.rt_model.specs.Boosts.{boost}
use Rattle.rt_model.specs.EffectiveKeys.{waits_for}
use Rattle.rt_model.specs.Group.{Group, in_group, tasks}
use Rattle.rt_model.specs.Past.{Past}
use Rattle.prio_inherit.specs.Waits.{Waits, boost_of, next_of}
use Rattle.sem_table.specs.SemTable.{SemTable, set_at, srp_set_at}
use Rattle.sem_table.specs.KeptRows.{KeepsRows}
use Rattle.sem_table.specs.KeptSems.{KeepsSems}
use Rattle.mpcp_ceilings.specs.Ceilings.{AreCeilings}
use Rattle.group_sems.specs.GroupSems.{GroupSems}

-- the base key of each task
pub record KeepsBases (g : Group) (past : Past) (bases : List (Option Key)) : Type 0 where
  pub room : length bases ≡ length g.setup.tasks + 1
  pub are : (t : ℕ) → has t (tasks g) ≡ true → slice_index_or bases t None ≡ Some (base_key g t past)

-- whom each task waits for
pub record KeepsNexts (g : Group) (past : Past) (nexts : List (Option ℕ)) : Type 0 where
  pub room : length nexts ≡ length g.setup.tasks + 1
  pub are : (t : ℕ) → has t (tasks g) ≡ true → next_of nexts t ≡ waits_for g t past
  pub others : (t : ℕ) → has t (tasks g) ≡ false → next_of nexts t ≡ None

-- the boost of each task
pub record KeepsBoosts (g : Group) (past : Past) (boosts : List (Option Key)) : Type 0 where
  pub room : length boosts ≡ length g.setup.tasks + 1
  pub are : (t : ℕ) → has t (tasks g) ≡ true → boost_of boosts t ≡ boost g t past

pub record KeepsWaits (g : Group) (past : Past) (w : Waits) : Type 0 where
  pub bases_are : KeepsBases g past w.bases
  pub nexts_are : KeepsNexts g past w.nexts
  pub boosts_are : KeepsBoosts g past w.boosts

-- in a cluster outside the group no PCP and no SRP semaphore is held
abbrev pub IsEmptyOutside : Group → SemTable → Type 0
IsEmptyOutside g w = (c : ℕ) → in_group g c ≡ false → ((set_at w.sets c).state.held ≡ []) × ((srp_set_at w.sets c).held ≡ [])

-- all but the base keys
pub record KeepsLocks (g : Group) (past : Past) (v : GroupSems) : Type 0 where
  pub sems_are : KeepsSems g past v.table
  pub rows_are : KeepsRows g past v.table
  pub none_outside : IsEmptyOutside g v.table
  pub nexts_are : KeepsNexts g past v.waits.nexts
  pub boosts_are : KeepsBoosts g past v.waits.boosts
  pub ceilings_are : AreCeilings g v.ceilings

pub record KeepsGroupSems (g : Group) (past : Past) (v : GroupSems) : Type 0 where
  pub locks : KeepsLocks g past v
  pub bases : KeepsBases g past v.waits.bases
