-- What comes of the bytes of a trace: the text of a view, or why there is none.
use Rattle.std.specs.Prelude.{◌≡◌, ℕ, List, Option, None, Some, option_map, Result, Ok, Err, Vec}
use Rattle.std.specs.declared.alloc.Global.{Global}
use Rattle.rt_base.specs.declared.NoMemory.{NoMemory}
use Rattle.rt_task.specs.declared.Parts.{Parts}
use Rattle.rt_rules.specs.declared.history.Entry as entries
use Rattle.rt_fault.specs.declared.status.Status.TheVariants as ends
use Rattle.event_lines.specs.WholeText.{whole_text}
use Rattle.trace_lines.specs.declared.format.Version.{Version}
use Rattle.trace_tools.specs.Tools.{Tool}
use Rattle.trace_check.specs.Verdicts.{IsInvalid}
use Rattle.view_command.specs.Texts.{view_text}
use Rattle.view_command.specs.View.{IsViewOf, LacksEntry}
use Rattle.view_command.specs.declared.ending.ViewEnd.{ViewEnd}
use Rattle.view_command.specs.declared.ending.ViewEnd.TheVariants.{Ended, NoSuchEntry}
use Rattle.view_command.specs.declared.views.View.{View}

-- a text in pieces
abbrev pub Pieces : Type 0
Pieces = Vec (Vec ℕ Global) Global

-- the text of the view of a set and its histories
abbrev pub IsTextOf : View → Parts → List (List entries.Entry) → Option Pieces → Type 0
IsTextOf view p hs text = option_map (λ (v : Pieces). whole_text v.items) text ≡ view_text view p hs

abbrev pub IsViewed : List Tool → Version → Parts → List ℕ → View → Result Pieces ViewEnd → Type 0
IsViewed tools version p bytes view (Ok text) = IsViewOf tools version p bytes view (whole_text text.items)
IsViewed tools version p bytes view (Err NoSuchEntry) = LacksEntry tools version p bytes view
IsViewed tools version p bytes view (Err (Ended (ends.Invalid line))) = IsInvalid tools version p bytes line
IsViewed tools version p bytes view (Err (Ended ends.NoMemory)) = Unit {0}
IsViewed tools version p bytes view (Err (Ended _)) = ⊥

-- what comes of a trace whose plays have this text of the view, if any
abbrev pub comes : Result (Option Pieces) NoMemory → Result Pieces ViewEnd
comes (Ok (Some text)) = Ok text
comes (Ok None) = Err NoSuchEntry
comes (Err e) = Err (Ended ends.NoMemory)
