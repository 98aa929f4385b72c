-- Rulers: numbers over the columns.
use Rattle.std.specs.Prelude.{ℕ, suc, ◌*◌, ◌%◌, ◌==◌, ◌||◌, nat_lt, List, [], ◌∷◌}
use Rattle.std.specs.Prelude.{◌++◌, length, map, Option, None, Some, codes, decimal, if◌then◌else◌}
use Rattle.rt_rules.specs.Numbers.{is, is_empty}
use Rattle.chart_texts.specs.declared.window.Axis.{Axis}
use Rattle.chart_texts.specs.declared.window.Axis.TheVariants.{Ticks, Entries}
use Rattle.chart_texts.specs.Charts.{Panel}
use Rattle.chart_texts.specs.Rows.{filled, row}

-- a number stands from its position on. It is left out where the ruler is longer than that or ends right before it; the first is there
abbrev pub with_number : List ℕ → ℕ → ℕ → List ℕ
with_number ruler position n = if is_empty ruler || nat_lt (length ruler) position then (filled position ruler ++ decimal n) else ruler

-- the numbers of the columns from i on that have one, two characters a column, behind those of the columns before
unfoldable pub ruler_from : List ℕ → ℕ → List (Option ℕ) → List ℕ
ruler_from ruler i [] = ruler
ruler_from ruler i (None ∷ os) = ruler_from ruler (suc i) os
ruler_from ruler i (Some n ∷ os) = ruler_from (with_number ruler (2 * i) n) (suc i) os

-- the labels that 5 divides
abbrev pub fifth : ℕ → Option ℕ
fifth n = if n % 5 == 0 then Some n else None

-- the clocks that are not that of the column before
abbrev pub new_clocks : Option ℕ → List ℕ → List (Option ℕ)
new_clocks before [] = []
new_clocks before (n ∷ ns) = (if is n before then None else Some n) ∷ new_clocks (Some n) ns

-- the rulers of a group: by ticks one; by entries the clocks after them, and their numbers
unfoldable pub rulers : Axis → ℕ → Panel → List ℕ
rulers Ticks width p = row width (codes "tick") (ruler_from [] 0 (map fifth p.labels))
rulers Entries width p =
    row width (codes "clock") (ruler_from [] 0 (new_clocks None p.clocks))
    ++ row width (codes "entry") (ruler_from [] 0 (map fifth p.labels))
