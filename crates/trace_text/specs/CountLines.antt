-- The count lines of a trace: what tools say of its entries, which they are shown group by group.
use Rattle.std.specs.Prelude.{ℕ, ◌+◌, Bool, false, List, [], ◌∷◌, ◌++◌, map, flat_map, Option, None, Some}
use Rattle.rt_base.specs.declared.TaskNo.{TaskNo}
use Rattle.rt_task.specs.declared.Parts.{Parts}
use Rattle.rt_rules.specs.declared.history.Entry.{Entry}
use Rattle.rt_model.specs.Group.{Group}
use Rattle.rt_model.specs.Past.{Past}
use Rattle.rt_model.specs.Histories.{after}
use Rattle.rt_plays.specs.Endings.{ended_last}
use Rattle.trace_lines.specs.Lines.{Line}
use Rattle.trace_lines.specs.declared.format.Version.{Version}
use Rattle.trace_lines.specs.Grammar.{line_text}
use Rattle.trace_lines.specs.Known.{known_of}
use Rattle.trace_tools.specs.declared.shown.Shown.{Shown}
use Rattle.trace_tools.specs.Tools.{Tool, line_of}
use Rattle.trace_tools.specs.Tools as tools
use Rattle.trace_tools.specs.Counters.{Counter, counter_line, counters_after}
use Rattle.trace_text.specs.TraceText.{trace_text}

-- the task whose job an entry ended, and whether it ended late
abbrev pub ended_task : Option (TaskNo × Bool) → Option TaskNo
ended_task None = None
ended_task (Some x) = Some x.0

abbrev pub ended_late : Option (TaskNo × Bool) → Bool
ended_late None = false
ended_late (Some x) = x.1

module _ (g : Group) where
  -- an entry with its number, as it is shown after the past that it made
  abbrev pub shown_as : ℕ → Entry → Past → Shown
  shown_as i e now = record {
    group = record { 0 = g.number };
    no = i;
    entry = e;
    ended = ended_task (ended_last g now);
    late = ended_late (ended_last g now);
  }

  -- each entry, numbered from i on
  unfoldable pub shown_entries : ℕ → Past → List Entry → List Shown
  shown_entries i past [] = []
  shown_entries i past (e ∷ es) =
      let now : Past = after g e.step past in
      shown_as i e now ∷ shown_entries (i + 1) now es

-- the entries of the groups from a number on, each with its history
abbrev pub shown_from : Parts → ℕ → List (List Entry) → List Shown
shown_from p n [] = []
shown_from p n (es ∷ more) = shown_entries (record { setup = p; number = n }) 0 [] es ++ shown_from p (n + 1) more

-- the count line of each tool, in order
abbrev pub count_lines : List Tool → Parts → List (List Entry) → List Line
count_lines ts p histories = map (λ (t : Tool). line_of (tools.after (shown_from p 0 histories) t)) ts

-- the text, and the count lines of the tools behind it
abbrev pub counted_text : Version → List Tool → Parts → List (List Entry) → List ℕ
counted_text version ts p histories =
    trace_text version p histories ++ flat_map (line_text (known_of version p)) (count_lines ts p histories)

-- the same of a bus, whose positions stand for its tools
abbrev pub bus_lines : List Counter → Parts → List (List Entry) → List Line
bus_lines counters p histories = map counter_line (counters_after (shown_from p 0 histories) counters)

abbrev pub bus_text : Version → List Counter → Parts → List (List Entry) → List ℕ
bus_text version counters p histories =
    trace_text version p histories ++ flat_map (line_text (known_of version p)) (bus_lines counters p histories)
