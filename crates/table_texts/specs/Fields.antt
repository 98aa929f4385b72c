-- Lines of fields with commas between them. No field has a comma: names, numbers and words have none.
use Rattle.std.specs.Fmt.{signed_decimal}
use Rattle.std.specs.List.{join_with_byte}
use Rattle.std.specs.Prelude.{ℕ, ◌+◌, List, [], ◌∷◌, ◌++◌, Option, None, Some, ℤ, decimal}
use Rattle.rt_task.specs.declared.Parts.{Parts}
use Rattle.rt_rules.specs.declared.history.Entry.{Entry}
use Rattle.rt_model.specs.Group.{Group}
use Rattle.rt_model.specs.Histories.{past_of}
use Rattle.rt_model.specs.Past.{Past}

abbrev pub Field : Type 0
Field = List ℕ

-- what is missing is an empty field; a number below 0 has a minus sign before it
abbrev pub number_or_none : Option ℕ → Field
number_or_none None = []
number_or_none (Some n) = decimal n

abbrev pub integer_or_none : Option ℤ → Field
integer_or_none None = []
integer_or_none (Some n) = signed_decimal n

-- a line, with its line feed
abbrev pub line_of : List Field → List ℕ
line_of fields = join_with_byte 44 fields ++ 10 ∷ []

-- what is written of each group of a setup from a number on, each with its history
abbrev pub of_groups : (Group → Past → List ℕ) → Parts → ℕ → List (List Entry) → List ℕ
of_groups text p n [] = []
of_groups text p n (es ∷ hs) =
    let g : Group = record { setup = p; number = n } in
    text g (past_of g es) ++ of_groups text p (n + 1) hs
