-- What a step of a group is: its processor is of the group, the task that arrives and the semaphore that is named are there, and
-- its tick and the time of a sleep are within the limits.
use Rattle.std.specs.Prelude.{◌≡◌, ◌<◌, true, ⊤}
use Rattle.rt_base.specs.declared.TheConstants.{TICK_END}
use Rattle.rt_task.specs.declared.Act.{Act}
use Rattle.rt_task.specs.declared.Act.TheVariants as acts
use Rattle.rt_task.specs.declared.Op.{Op}
use Rattle.rt_task.specs.declared.Op.TheVariants as ops
use Rattle.rt_task.specs.declared.Step.{Step}
use Rattle.rt_rules.specs.Numbers.{has}
use Rattle.rt_model.specs.Group.{Group, group_processors, sems, tasks}

module _ (g : Group) where
  abbrev pub IsOpOf : Op → Type 0
  IsOpOf (ops.Lock s) = has s.0 (sems g) ≡ true
  IsOpOf (ops.Unlock s) = has s.0 (sems g) ≡ true
  IsOpOf (ops.Sleep n) = n < TICK_END
  IsOpOf _ = ⊤

  abbrev pub IsActOf : Act → Type 0
  IsActOf (acts.Arrive t) = has t.0 (tasks g) ≡ true
  IsActOf (acts.Do op) = IsOpOf op
  IsActOf _ = ⊤

  pub record IsStepOf (step : Step) : Type 0 where
    pub processor : has step.cpu.0 (group_processors g) ≡ true
    pub tick : step.tick.0 < TICK_END
    pub act : IsActOf step.act
