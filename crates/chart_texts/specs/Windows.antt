-- The columns of a group that a chart shows.
use Rattle.std.specs.Prelude.{ℕ, ◌-◌, List, length, take, drop, max, min}
use Rattle.rt_model.specs.Past.{Past}
use Rattle.trace_views.specs.Columns.{Column, tick_columns, entry_columns}
use Rattle.chart_texts.specs.declared.window.Axis.{Axis}
use Rattle.chart_texts.specs.declared.window.Axis.TheVariants.{Ticks, Entries}
use Rattle.chart_texts.specs.declared.window.Window.{Window}

unfoldable pub columns_on : Axis → Past → List Column
columns_on Ticks past = tick_columns past
columns_on Entries past = entry_columns past

-- the length of a group is its number of columns
unfoldable pub length_on : Axis → Past → ℕ
length_on axis past = length (columns_on axis past)

-- the columns from one on up to another; beyond the last there are none
abbrev pub cut : {A : Type 0} → Window → List A → List A
cut w xs = take (w.to - w.from) (drop w.from xs)

unfoldable pub columns_in : Axis → Window → Past → List Column
columns_in axis w past = cut w (columns_on axis past)

-- where no window is asked for: all columns, but at most 400 and at least one
abbrev pub whole : ℕ → Window
whole longest = record { from = 0; to = max 1 (min 400 longest) }
