-- When the columns of a window are over: no later step changes them, or what they show.
use Rattle.std.specs.Prelude.{ℕ, Bool, false, nat_le, nat_lt, slice_get, Option, None, Some}
use Rattle.rt_model.specs.Past.{Past, now}
use Rattle.chart_texts.specs.declared.window.Axis.{Axis}
use Rattle.chart_texts.specs.declared.window.Axis.TheVariants.{Ticks, Entries}
use Rattle.chart_texts.specs.declared.window.Window.{Window}
use Rattle.chart_feed.specs.EntryClocks.{entry_clocks}

-- whether there is a clock, and it is before one
abbrev pub is_before : ℕ → Option ℕ → Bool
is_before clock None = false
is_before clock (Some n) = nat_lt n clock

-- by ticks the clock has come to the tick behind the window; by entries it is past that of the entry behind the window
abbrev pub is_over : Axis → Window → Past → Bool
is_over Ticks w past = nat_le w.to (now past)
is_over Entries w past = is_before (now past) (slice_get (entry_clocks past) w.to)
