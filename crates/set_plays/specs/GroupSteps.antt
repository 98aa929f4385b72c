-- The steps of a group, and the histories that steps of all groups of a set come to.
use Rattle.std.specs.Prelude.{◌≡◌, ℕ, ◌+◌, ◌<◌, ◌≤◌, List, [], ◌∷◌, length, map, All, get_or}
use Rattle.rt_base.specs.declared.TheConstants.{MOST_STEPS}
use Rattle.rt_task.specs.declared.Parts.{Parts}
use Rattle.rt_task.specs.declared.Step.{Step}
use Rattle.rt_rules.specs.declared.history.Entry.{Entry}
use Rattle.rt_model.specs.Group.{Group}
use Rattle.rt_model.specs.Steps.{IsStepOf}
use Rattle.rt_task.specs.declared.Drive.TheVariants.{Horizon}
use Rattle.rt_plays.specs.Order.{history, order, rounds}
use Rattle.rt_plays.specs.Plays.{group_count, group_with}
use Rattle.rt_plays.specs.Groups.{AreStepsOf}
use Rattle.set_plays.specs.Groups.{script_of}
use Rattle.set_plays.specs.declared.group_steps.GroupSteps.{GroupSteps}
use Rattle.set_plays.specs.declared.group_steps.GroupSteps.TheVariants.{Given, Again, Turns}

abbrev pub steps_of : Group → GroupSteps → List Step
steps_of g (Given steps) = steps.now
steps_of g (Again entries) = map (λ (e : Entry). e.step) entries.now
steps_of g (Turns horizon) = rounds g horizon 0 []

-- they are steps of the group, no more than a history has
abbrev pub AreStepsIn : Group → GroupSteps → Type 0
AreStepsIn g (Given steps) = All (IsStepOf g) steps.now × (length steps.now ≤ MOST_STEPS)
AreStepsIn g (Again entries) = AreStepsOf g entries.now × (length entries.now ≤ MOST_STEPS)
AreStepsIn g (Turns horizon) = g.setup.drive ≡ Horizon horizon

-- steps for each group of the set, by rising number
pub record AreGroupSteps (p : Parts) (xs : List GroupSteps) : Type 0 where
  pub count : length xs ≡ group_count p
  pub steps : (n : ℕ) (d : GroupSteps) → n < length xs → AreStepsIn (group_with p n) (get_or xs n d)

-- the history that they come to
abbrev pub group_told : Parts → ℕ → GroupSteps → List Entry
group_told p n x = history (group_with p n) [] (steps_of (group_with p n) x)

-- the histories of the groups from a number on
abbrev pub told_from : Parts → ℕ → List GroupSteps → List (List Entry)
told_from p n [] = []
told_from p n (x ∷ xs) = group_told p n x ∷ told_from p (n + 1) xs

abbrev pub told : Parts → List GroupSteps → List (List Entry)
told p xs = told_from p 0 xs

-- the group's steps are those that one thread plays of it
pub record AreInOrder (p : Parts) (n : ℕ) (x : GroupSteps) : Type 0 where
  pub steps : AreStepsIn (group_with p n) x
  pub order_is : steps_of (group_with p n) x ≡ order (group_with p n)

-- these are the steps that the set gives for the group
pub record IsScriptOf (p : Parts) (n : ℕ) (steps : List Step) : Type 0 where
  pub script_is : steps ≡ script_of p n
  pub of_group : All (IsStepOf (group_with p n)) steps
  pub few : length steps ≤ MOST_STEPS
