-- Tests on a list in order: the first that fails is the refusal.
use Rattle.std.specs.Prelude.{ℕ, Bool, List, [], ◌∷◌, ◌++◌, length, Option, None, Some, option_map, if◌then◌else◌}
use Rattle.rt_task.specs.declared.bad_set.SetKind.{SetKind}
use Rattle.rt_task.specs.declared.bad_set.Part.{Part}
use Rattle.rt_task.specs.declared.bad_set.Part.TheVariants as parts
use Rattle.rt_task.specs.declared.bad_set.BadSet.{BadSet}

abbrev pub bad : SetKind → Part → ℕ → BadSet
bad kind part index = record { kind = kind; place = record { part = part; index = index } }

-- the first of several refusals
abbrev pub first : List (Option BadSet) → Option BadSet
first [] = None
first (None ∷ rest) = first rest
first (Some x ∷ rest) = Some x

-- a rule on the whole
abbrev pub whole : SetKind → Bool → Option BadSet
whole kind holds = if holds then None else Some (bad kind parts.Whole 0)

-- the index of the first element that breaks a rule, which may look at the elements before it
abbrev pub first_failing : {A : Type 0} → (List A → A → Bool) → List A → List A → Option ℕ
first_failing rule earlier [] = None
first_failing rule earlier (x ∷ xs) = if rule earlier x then first_failing rule (earlier ++ x ∷ []) xs else Some (length earlier)

-- a rule on each element
abbrev pub each : {A : Type 0} → SetKind → Part → (List A → A → Bool) → List A → Option BadSet
each kind part rule xs = option_map (bad kind part) (first_failing rule [] xs)
