-- What the group of the tour has, and which steps are its own.
use Rattle.std.proofs.Common.{◌≡◌, ℕ, zero, suc, ◌<◌, true, List, length, get_or, map, sym, subst, arith, refl}
use Rattle.rt_task.specs.Draft.{step_of}
use Rattle.rt_task.specs.declared.Step.{Step}
use Rattle.rt_rules.specs.Numbers.{has}
use Rattle.rt_model.specs.worked.Computed.{computed}
use Rattle.rt_model.specs.Group.{Group, clusters, sems, tasks, users}
use Rattle.rt_model.specs.Steps.{IsStepOf}
use Rattle.rt_plays.specs.Homes.{IsProcessorOf}
use Rattle.library_tour.specs.inside.TourGroup.{the_group}
use Rattle.library_tour.specs.inside.TourSet.{the_steps}

-- the processors, the cluster, the tasks and the semaphore with a user
pub record HasAll (g : Group) : Type 0 where
  pub first : IsProcessorOf g 0
  pub second : IsProcessorOf g 1
  pub cluster : has 0 (clusters g) ≡ true
  pub sem : has 1 (sems g) ≡ true
  pub user : has 1 (users g 1) ≡ true
  pub task_a : has 1 (tasks g) ≡ true
  pub task_b : has 2 (tasks g) ≡ true

pub has-all : (g : Group) → g ≡ the_group → HasAll g
unfolding computed
has-all g same = subst HasAll (sym same)
    (record { first = refl; second = refl; cluster = refl; sem = refl; user = refl; task_a = refl; task_b = refl })

pub step-there : (i : ℕ) (d : Step) → i < length the_steps → IsStepOf the_group (get_or (map step_of the_steps) i d)
unfolding computed
step-there zero d few = record { processor = refl; tick = omega arith; act = tt }
step-there (suc zero) d few = record { processor = refl; tick = omega arith; act = tt }
step-there (suc (suc zero)) d few = record { processor = refl; tick = omega arith; act = refl }
step-there (suc (suc (suc zero))) d few = record { processor = refl; tick = omega arith; act = refl }
step-there (suc (suc (suc (suc zero)))) d few = record { processor = refl; tick = omega arith; act = refl }
step-there (suc (suc (suc (suc (suc i))))) d few = absurd (omega (arith, few))
