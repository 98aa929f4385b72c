-- The words of a command line, and which view they ask for.
use Rattle.std.specs.Prelude.{◌≡◌, ℕ, ◌^◌, ◌-◌, ◌<◌, Bool, ◌&&◌, nat_le, nat_lt, List, [], ◌∷◌, Option, None, Some, if◌then◌else◌}
use Rattle.std.specs.Prelude.{bytes_eq, codes, decimal, string_bytes, String}
use Rattle.std.specs.Str.Parse.{digits_value}
use Rattle.std.specs.declared.alloc.Global.{Global}
use Rattle.rt_base.specs.declared.TheConstants.{TICK_END}
use Rattle.chart_texts.specs.declared.window.Axis.{Axis}
use Rattle.chart_texts.specs.declared.window.Axis.TheVariants.{Ticks, Entries}
use Rattle.chart_texts.specs.declared.window.Window.{Window}
use Rattle.view_charts.specs.declared.texts.Form.{Form}
use Rattle.view_charts.specs.declared.texts.Form.TheVariants.{Text, Svg}
use Rattle.view_tables.specs.declared.tables.Table.TheVariants.{Jobs, Tasks}
use Rattle.view_command.specs.declared.views.View.{View}
use Rattle.view_command.specs.declared.views.View.TheVariants.{Table, Entry, Chart, Events}

-- a word is the decimal text of a number below 2^64
abbrev pub IsDecimal : List ℕ → ℕ → Type 0
IsDecimal w n = (w ≡ decimal n) × (n < 2 ^ 64)

-- the number below 2^64 that a word is in decimal, without sign and without leading zeros
abbrev pub number_said : List ℕ → Option ℕ
number_said w = let n : ℕ = digits_value 10 w in if bytes_eq w (decimal n) && nat_lt n (2 ^ 64) then Some n else None

-- entry n of group g
abbrev pub entry_of : Option ℕ → Option ℕ → Option View
entry_of (Some g) (Some n) = Some (Entry g n)
entry_of (Some g) None = None
entry_of None n = None

-- how a chart is drawn
abbrev pub form_said : List ℕ → Option Form
form_said w = if bytes_eq w (codes "text") then Some Text else (if bytes_eq w (codes "svg") then Some Svg else None)

-- a window has at least one column and at most 400, and does not reach beyond the last tick that there can be
abbrev pub is_shown : ℕ → ℕ → Bool
is_shown from to = nat_lt from to && (nat_le to TICK_END && nat_le (to - from) 400)

abbrev pub window_of : Option ℕ → Option ℕ → Option Window
window_of (Some from) (Some to) = if is_shown from to then Some (record { from = from; to = to }) else None
window_of (Some from) None = None
window_of None to = None

-- a chart of all columns, and of those in a window
abbrev pub whole_chart : Option Form → Axis → Option View
whole_chart (Some form) axis = Some (Chart form axis None)
whole_chart None axis = None

abbrev pub chart_of : Option Form → Axis → Option Window → Option View
chart_of (Some form) axis (Some w) = Some (Chart form axis (Some w))
chart_of (Some form) axis None = None
chart_of None axis window = None

-- by how many words there are
abbrev pub one_said : List ℕ → Option View
one_said w =
    if bytes_eq w (codes "jobs") then Some (Table Jobs)
    else (if bytes_eq w (codes "tasks") then Some (Table Tasks)
    else (if bytes_eq w (codes "events") then Some Events else whole_chart (form_said w) Ticks))

abbrev pub two_said : List ℕ → List ℕ → Option View
two_said w x =
    if bytes_eq w (codes "why") then entry_of (Some 0) (number_said x)
    else (if bytes_eq x (codes "entries") then whole_chart (form_said w) Entries else None)

abbrev pub three_said : List ℕ → List ℕ → List ℕ → Option View
three_said w x y =
    if bytes_eq w (codes "why") then entry_of (number_said x) (number_said y)
    else chart_of (form_said w) Ticks (window_of (number_said x) (number_said y))

abbrev pub four_said : List ℕ → List ℕ → List ℕ → List ℕ → Option View
four_said w x y z =
    if bytes_eq x (codes "entries") then chart_of (form_said w) Entries (window_of (number_said y) (number_said z)) else None

-- the view that the words ask for
abbrev pub view_said : List (String Global) → Option View
view_said (w ∷ []) = one_said (string_bytes w)
view_said (w ∷ x ∷ []) = two_said (string_bytes w) (string_bytes x)
view_said (w ∷ x ∷ y ∷ []) = three_said (string_bytes w) (string_bytes x) (string_bytes y)
view_said (w ∷ x ∷ y ∷ z ∷ []) = four_said (string_bytes w) (string_bytes x) (string_bytes y) (string_bytes z)
view_said _ = None

abbrev pub Names : List (String Global) → View → Type 0
Names words view = view_said words ≡ Some view

abbrev pub IsNoCommand : List (String Global) → Type 0
IsNoCommand words = view_said words ≡ None
