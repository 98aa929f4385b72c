-- The text of each view of a set and its histories.
use Rattle.std.specs.Prelude.{ℕ, List, Option, Some}
use Rattle.rt_task.specs.declared.Parts.{Parts}
use Rattle.rt_rules.specs.declared.history.Entry as entries
use Rattle.chart_texts.specs.Charts.{pasts_from}
use Rattle.event_texts.specs.EventText.{event_text}
use Rattle.why_texts.specs.WhyText.{why_text}
use Rattle.view_charts.specs.Texts.{drawn}
use Rattle.view_tables.specs.Texts.{table_text}
use Rattle.view_command.specs.declared.views.View.{View}
use Rattle.view_command.specs.declared.views.View.TheVariants.{Table, Entry, Chart, Events}

-- none where there is no such group or entry
abbrev pub view_text : View → Parts → List (List entries.Entry) → Option (List ℕ)
view_text (Table table) p hs = Some (table_text table p hs)
view_text (Entry g n) p hs = why_text p hs g n
view_text (Chart form axis window) p hs = Some (drawn form axis window p hs)
view_text Events p hs = Some (event_text (pasts_from p 0 hs))
