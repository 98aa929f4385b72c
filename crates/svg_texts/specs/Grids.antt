-- The grid over the columns of a group, with their labels and clocks.
use Rattle.std.specs.Prelude.{ℕ, ◌+◌, ◌-◌, ◌*◌, ◌%◌, Bool, true, ◌==◌, nat_lt, nat_le, ◌&&◌, ◌||◌, not, List, [], ◌++◌, length, flat_map}
use Rattle.std.specs.Prelude.{codes, decimal, slice_index_or, if◌then◌else◌}
use Rattle.std.specs.List.{list_all}
use Rattle.rt_rules.specs.Numbers.{numbers_from}
use Rattle.chart_texts.specs.declared.window.Axis.{Axis}
use Rattle.chart_texts.specs.declared.window.Axis.TheVariants.{Ticks, Entries}
use Rattle.chart_texts.specs.declared.window.Window.{Window}
use Rattle.chart_texts.specs.Charts.{Panel}
use Rattle.svg_texts.specs.Shapes.{line, words}

-- each label stands where no number has more than three digits, else each fifth
abbrev pub clocks_short : List Panel → Bool
clocks_short ps = list_all (λ (p : Panel). nat_le p.last 100) ps

abbrev pub all_short : Axis → List Panel → Bool
all_short Ticks ps = true
all_short Entries ps = clocks_short ps

abbrev pub step_of : Axis → Window → List Panel → ℕ
step_of axis w ps = if nat_le w.to 100 && all_short axis ps then 1 else 5

-- a tick's label stands at the edge of its column, and an entry's in the middle
abbrev pub label_position : Axis → ℕ → ℕ
label_position Ticks x = x
label_position Entries x = x + 10

abbrev pub value_at : List ℕ → ℕ → ℕ
value_at values i = slice_index_or values i 0

-- the clock of a column is not that of the label before
abbrev pub clock_is_new : ℕ → List ℕ → ℕ → Bool
clock_is_new step clocks i = nat_lt i step || not (value_at clocks i == value_at clocks (i - step))

abbrev pub clock_words : Axis → ℕ → List ℕ → ℕ → ℕ → ℕ → List ℕ
clock_words Ticks step clocks i x y = []
clock_words Entries step clocks i x y =
    if clock_is_new step clocks i then words (codes "n") x (y + 36) (decimal (value_at clocks i)) else []

-- the label of column i, and by entries its clock
unfoldable pub column_words : Axis → ℕ → Panel → ℕ → ℕ → ℕ → List ℕ
column_words axis step c i x y =
    words (codes "n m") (label_position axis x) (y + 50) (decimal (value_at c.labels i)) ++ clock_words axis step c.clocks i x y

-- each fifth line is darker
abbrev pub line_class : ℕ → List ℕ
line_class number = if number % 5 == 0 then codes "G" else codes "g"

module _ (axis : Axis) (step : ℕ) (edge : ℕ) (y : ℕ) (c : Panel) where
  -- column i of the window, which has a number in the group; the last line has no column behind it
  unfoldable pub grid_line : ℕ → ℕ → ℕ → List ℕ
  grid_line height number i =
      line (line_class number) (edge + 20 * i) (y + 56) 0 height
      ++ (if number % step == 0 && nat_lt i (length c.labels) then column_words axis step c i (edge + 20 * i) y else [])

  -- a line at the left edge of each of n columns, numbered from a number on, and one behind the last
  unfoldable pub grid : ℕ → ℕ → ℕ → List ℕ
  grid height from n = flat_map (λ i. grid_line height (from + i) i) (numbers_from 0 (n + 1))
