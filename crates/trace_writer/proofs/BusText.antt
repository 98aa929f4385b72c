-- The text of a bus is that of its tools; without tools it is the trace.
use Rattle.std.proofs.Common.{◌≡◌, List, [], ◌∷◌, ◌++◌, map, refl, sym, ap, ◌∙◌, append-nil, append_assoc}
use Rattle.std.proofs.lemmas.Simd.{map-map}
use Rattle.rt_task.specs.declared.Parts.{Parts}
use Rattle.rt_rules.specs.declared.history.Entry.{Entry}
use Rattle.trace_lines.specs.Lines.{Line}
use Rattle.trace_lines.specs.Known.{known_of}
use Rattle.trace_lines.specs.declared.format.Version.{Version}
use Rattle.trace_tools.specs.declared.shown.Shown.{Shown}
use Rattle.trace_tools.specs.Counters.{Counter, counter_line, counter_of, counters_after}
use Rattle.trace_tools.specs.Tools.{Tool, line_of}
use Rattle.trace_tools.specs.Tools as tools
use Rattle.trace_tools.proofs.BusLaws.{lines-after}
use Rattle.trace_text.specs.CountLines.{bus_lines, bus_text, counted_text, shown_from}
use Rattle.trace_text.specs.TraceText.{head_text, lines_from, trace_text}
use Rattle.trace_text.proofs.LineLaws.{texts}
use Rattle.trace_writer.proofs.CameLaws.{HasParts}

-- the lines of a bus of these tools, each of which is what its trait says
pub lines-of_tools : {T : Type 0} (tool : T → Tool) (ts : List T) (es : List Shown)
    → map counter_line (counters_after es (map (λ t. counter_of (tool t)) ts)) ≡ map (λ (t : Tool). line_of (tools.after es t)) (map tool ts)
lines-of_tools tool ts es = ap (λ (ss : List Counter). map counter_line (counters_after es ss)) (sym (map-map counter_of tool ts)) ∙ lines-after es (map tool ts)

pub text-of_tools : {T : Type 0} (version : Version) (tool : T → Tool) (ts : List T) (p : Parts) (hs : List (List Entry)) (counters : List Counter) → counters ≡ map (λ t. counter_of (tool t)) ts
    → bus_text version counters p hs ≡ counted_text version (map tool ts) p hs
text-of_tools version tool ts p hs counters is =
    ap (λ (ss : List Counter). bus_text version ss p hs) is
    ∙ ap (λ (ls : List Line). trace_text version p hs ++ texts (known_of version p) ls) (lines-of_tools tool ts (shown_from p 0 hs))

-- no position comes to be
counters_after-none : (es : List Shown) → counters_after es [] ≡ []
counters_after-none [] = refl
counters_after-none (e ∷ es) = counters_after-none es

pub text-of_none : (version : Version) (p : Parts) (hs : List (List Entry)) (counters : List Counter) → counters ≡ [] → bus_text version counters p hs ≡ trace_text version p hs
text-of_none version p hs counters none =
    ap (λ (ss : List Counter). bus_text version ss p hs) none
    ∙ ap (λ (ss : List Counter). trace_text version p hs ++ texts (known_of version p) (map counter_line ss)) (counters_after-none (shown_from p 0 hs))
    ∙ append-nil (trace_text version p hs)

-- the text of a bus as it is written: the head, the lines of the groups, and the count lines of a bus that was shown the entries
pub bus-parts : (version : Version) (p names : Parts) (hs : List (List Entry)) (before fed : List Counter) → names ≡ p → fed ≡ counters_after (shown_from p 0 hs) before
    → HasParts (bus_text version before p hs) (head_text version names) (texts (known_of version names) (lines_from p 0 hs)) (texts (known_of version p) (map counter_line fed))
unfolding trace_text
bus-parts version p names hs before fed same shown =
    record { parts_are = rw (same, shown) (append_assoc (head_text version p) (texts (known_of version p) (lines_from p 0 hs)) (texts (known_of version p) (bus_lines before p hs))) }
