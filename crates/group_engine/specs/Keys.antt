-- A table of keys holds those of a group's tasks.
use Rattle.std.specs.Prelude.{◌≡◌, ℕ, true}
use Rattle.rt_rules.specs.Numbers.{has}
use Rattle.rt_model.specs.EffectiveKeys as model
use Rattle.rt_model.specs.Group.{Group, tasks}
use Rattle.rt_model.specs.Past.{Past}
use Rattle.prio_inherit.specs.Waits.{Waits, effective_key}
use Rattle.group_sems.specs.Telling.{HasBase}

-- of each task the base key was told, and its key is the effective one
pub record HoldsKeys (g : Group) (past : Past) (w : Waits) : Type 0 where
  pub told : (t : ℕ) → has t (tasks g) ≡ true → HasBase w.bases t
  pub keys : (t : ℕ) → has t (tasks g) ≡ true → effective_key w t ≡ model.effective_key g t past
