-- The state of the tool that finds the first miss.
use Rattle.std.specs.Prelude.{ℕ, List, [], ◌∷◌, Option, None, Some}
use Rattle.rt_base.specs.declared.TaskNo.{TaskNo}

abbrev pub numbers_of : Option (ℕ × TaskNo) → List ℕ
numbers_of None = []
numbers_of (Some x) = x.0 ∷ x.1.0 ∷ []
