-- Tasks that may be there, looked at one after the other.
use Rattle.std.proofs.Common.{◌≡◌, ℕ, Bool, true, false, ◌||◌, List, [], ◌∷◌, refl}
use Rattle.std.specs.Prelude.{◌==◌, Option, None, Some}
use Rattle.rt_task.specs.declared.Parts.{Parts}
use Rattle.rt_rules.specs.Numbers.{has}
use Rattle.rt_rules.specs.Placing.{tasks_in}
use Rattle.rt_rules.proofs.BoolLaws.{or_true}
use Rattle.group_engine.specs.declared.state.GroupState.{GroupState}
use Rattle.group_engine.specs.inside.Touching.{CanUpdateAll, all_updated}
use Rattle.group_engine.proofs.Updating.{can-after-all}

in-first : (t : ℕ) (o : Option ℕ) (rest : List (Option ℕ)) → has t (tasks_in (o ∷ [])) ≡ true → has t (tasks_in (o ∷ rest)) ≡ true
in-first t None rest h = cc
in-first t (Some x) rest h = by_case (t == x) h
  where
    by_case : (b : Bool) → b || false ≡ true → b || has t (tasks_in rest) ≡ true
    by_case true k = refl
    by_case false k = cc

in-rest : (t : ℕ) (o : Option ℕ) (rest : List (Option ℕ)) → has t (tasks_in rest) ≡ true → has t (tasks_in (o ∷ rest)) ≡ true
in-rest t None rest h = h
in-rest t (Some x) rest h = rw h (or_true (t == x))

module _ (p : Parts) (o : Option ℕ) (rest : List (Option ℕ)) (s : GroupState) where
  -- the first can be looked at, and then the others
  pub can-first : CanUpdateAll p (tasks_in (o ∷ rest)) s → CanUpdateAll p (tasks_in (o ∷ [])) s
  can-first can t h = can t (in-first t o rest h)

  pub can-rest : CanUpdateAll p (tasks_in (o ∷ rest)) s → CanUpdateAll p (tasks_in rest) (all_updated p (tasks_in (o ∷ [])) s)
  can-rest can t h = can-after-all p t (tasks_in (o ∷ [])) s (can t (in-rest t o rest h))

pub brought-first : (p : Parts) (o : Option ℕ) (rest : List (Option ℕ)) (s : GroupState)
    → all_updated p (tasks_in (o ∷ rest)) s ≡ all_updated p (tasks_in rest) (all_updated p (tasks_in (o ∷ [])) s)
brought-first p None rest s = refl
brought-first p (Some x) rest s = refl
