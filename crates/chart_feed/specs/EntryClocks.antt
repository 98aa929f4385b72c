-- The clocks after the entries of a past, and those of a window's columns.
use Rattle.std.specs.Prelude.{ℕ, zero, suc, List, [], ◌∷◌, length, map, slice_get, Option}
use Rattle.rt_model.specs.Past.{Past, now}
use Rattle.chart_texts.specs.declared.window.Window.{Window}
use Rattle.chart_texts.specs.Windows.{cut}
use Rattle.chart_feed.specs.WindowStrips.{entries_of}

-- the oldest first
abbrev pub entry_clocks : Past → List ℕ
entry_clocks past = map now (entries_of past)

-- where the columns behind so many begin
abbrev pub first_at : ℕ → ℕ → List ℕ → ℕ
first_at first zero cs = first
first_at first (suc n) [] = first
first_at first (suc n) (c ∷ cs) = first_at (suc c) n cs

-- how many there are; where the window's first column begins, its clocks, and the clock behind it
pub record EntriesKept : Type 0 where
  pub count : ℕ
  pub first : ℕ
  pub clocks : List ℕ
  pub after : Option ℕ

abbrev pub clocks_in : Window → List ℕ → EntriesKept
clocks_in w cs = record { count = length cs; first = first_at 0 w.from cs; clocks = cut w cs; after = slice_get cs w.to }
