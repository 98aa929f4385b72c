-- PCP (Sha, Rajkumar and Lehoczky, IEEE Transactions on Computers, 1990): the task that keeps a waiting task from its semaphore.
use Rattle.std.specs.Prelude.{ℕ, Bool, not, ◌&&◌, ◌||◌, List, Option, nat_lt, map}
use Rattle.rt_rules.specs.KeyOrder.{higher}
use Rattle.rt_rules.specs.Numbers.{foremost}
use Rattle.rt_rules.specs.Pcp.{TaskSem, of_others, holder_among}
use Rattle.rt_model.specs.Ceilings.{ceiling, pcp}
use Rattle.rt_model.specs.Group.{Group, home}
use Rattle.rt_model.specs.Past.{Past}

module _ (g : Group) where
  -- ties go to the lower semaphore number
  unfoldable pub has_higher_ceiling : ℕ → ℕ → Bool
  has_higher_ceiling s r = higher (ceiling g s) (ceiling g r) || not (higher (ceiling g r) (ceiling g s)) && nat_lt s r

  unfoldable pub blocker_among : List TaskSem → Option ℕ
  blocker_among held = holder_among held (foremost has_higher_ceiling (map (λ (p : TaskSem). p.sem) held))

  -- the holder of the highest ceiling among the semaphores that others hold
  unfoldable pub blocker : ℕ → Past → Option ℕ
  blocker t past = blocker_among (of_others t (pcp g (home g t) past).held)
