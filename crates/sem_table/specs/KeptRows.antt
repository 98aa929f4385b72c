-- What the table keeps of the tasks of a group is what the rules say of its past.
use Rattle.std.specs.Prelude.{◌≡◌, ◌<◌, ℕ, true, length, option_map}
use Rattle.rt_base.specs.declared.SemNo.{SemNo}
use Rattle.rt_rules.specs.Numbers.{has}
use Rattle.rt_model.specs.Group.{Group, home, tasks}
use Rattle.rt_model.specs.Holders.{awaits, holds}
use Rattle.rt_model.specs.Past.{Past}
use Rattle.sem_table.specs.declared.row.Row.{Row}
use Rattle.sem_table.specs.SemTable.{SemTable, row_at}

pub record KeepsRow (g : Group) (t : ℕ) (past : Past) (r : Row) : Type 0 where
  pub home_is : r.home.0 ≡ home g t
  pub awaited : option_map (λ (n : SemNo). n.0) r.awaits ≡ awaits g t past
  pub held : r.held ≡ length (holds g t past)

pub record KeepsRows (g : Group) (past : Past) (w : SemTable) : Type 0 where
  pub small : length g.setup.sems < 4294967296
  pub row_room : (t : ℕ) → has t (tasks g) ≡ true → t < length w.rows
  pub rows : (t : ℕ) → has t (tasks g) ≡ true → KeepsRow g t past (row_at w.rows t)
