-- The semaphores of one cluster under SRP as contracts see them.
use Rattle.std.specs.Prelude.{ℕ, List, slice_index_or}
use Rattle.rt_rules.specs.Pcp.{TaskSem}

-- the ceilings, what is held, the newest lock first, and the number that those of tasks are below
pub record SrpKept : Type 0 where
  pub ceilings : List ℕ
  pub held : List TaskSem
  pub room : ℕ

abbrev pub ceiling_at : List ℕ → ℕ → ℕ
ceiling_at ceilings s = slice_index_or ceilings s 0
