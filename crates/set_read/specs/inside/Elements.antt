-- The elements of an array, read one after another.
use Rattle.std.specs.Prelude.{ℕ, ◌+◌, List, [], ◌∷◌, ◌++◌, Option, None, Some, Result, Ok, Err}
use Rattle.rt_task.specs.declared.bad_set.BadSet.{BadSet}
use Rattle.rt_task.specs.declared.bad_set.Part.{Part}
use Rattle.rt_task.specs.declared.bad_set.SetKind.TheVariants as kinds
use Rattle.rt_task.specs.Refusals.{bad}

abbrev pub with_front : {A : Type 0} → List A → Result (List A) BadSet → Result (List A) BadSet
with_front front (Ok xs) = Ok (front ++ xs)
with_front front (Err b) = Err b

abbrev pub elements_from : {A : Type 0} → Part → ℕ → List (Option A) → Result (List A) BadSet
elements_from part n [] = Ok []
elements_from part n (None ∷ xs) = Err (bad kinds.Shape part n)
elements_from part n (Some x ∷ xs) = with_front (x ∷ []) (elements_from part (n + 1) xs)
