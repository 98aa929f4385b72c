-- The windows that views ask for.
use Rattle.std.specs.Prelude.{Option, None, Some, ⊤}
use Rattle.view_charts.specs.Windows as charts
use Rattle.view_command.specs.declared.views.View.{View}
use Rattle.view_command.specs.declared.views.View.TheVariants.{Table, Entry, Chart, Events}

-- a chart can be drawn in the window, if one is asked for
abbrev pub Fits : View → Type 0
Fits (Table table) = ⊤
Fits (Entry g n) = ⊤
Fits (Chart form axis window) = charts.Fits window
Fits Events = ⊤

abbrev pub FitsIfAny : Option View → Type 0
FitsIfAny None = ⊤
FitsIfAny (Some view) = Fits view
