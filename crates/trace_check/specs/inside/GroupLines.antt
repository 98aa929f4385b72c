-- The lines of the groups of a set, without the line `end`.
use Rattle.std.specs.Prelude.{◌≡◌, ℕ, ◌+◌, List, [], ◌∷◌, ◌++◌, length}
use Rattle.rt_task.specs.declared.Parts.{Parts}
use Rattle.rt_rules.specs.declared.history.Entry.{Entry}
use Rattle.rt_model.specs.Group.{Group, group_processors}
use Rattle.rt_model.specs.Histories.{after, changed, past_of}
use Rattle.rt_plays.specs.Plays.{IsPlay, group_with}
use Rattle.trace_lines.specs.Grammar.{line_text}
use Rattle.trace_lines.specs.Known.{Known, IsLine}
use Rattle.trace_lines.specs.Lines.{Line, entry_line, group_line}
use Rattle.trace_text.specs.TraceText.{entry_lines, group_lines, links_at}

-- the line of a group, with the links at opening
abbrev pub opening_line : Group → Line
opening_line g = group_line g.number (links_at g [] (group_processors g))

-- and one line for each entry
abbrev pub lines_so_far : Group → List Entry → List Line
lines_so_far g es = opening_line g ∷ entry_lines g 0 [] es

-- the line of an entry that comes after others
abbrev pub next_line : Group → List Entry → Entry → Line
next_line g es e =
    entry_line (length es) e (links_at g (after g e.step (past_of g es)) (changed g (past_of g es) (after g e.step (past_of g es))))

-- those of the groups from a number on, each with its history, and with a line for each request of it
abbrev pub lines_of_groups : Parts → ℕ → List (List Entry) → List Line
lines_of_groups p n [] = []
lines_of_groups p n (es ∷ more) = group_lines (group_with p n) es ++ lines_of_groups p (n + 1) more

-- plays of the groups from a number on
abbrev pub ArePlaysFrom : Parts → ℕ → List (List Entry) → Type 0
ArePlaysFrom p n [] = Unit {0}
ArePlaysFrom p n (es ∷ more) = IsPlay (group_with p n) es × ArePlaysFrom p (n + 1) more

-- a line of another kind than an entry's
abbrev pub IsOtherLine : Line → Type 0
IsOtherLine (entry_line n e links) = ⊥
IsOtherLine _ = Unit {0}

-- no line of an entry stands first
abbrev pub NoEntryFirst : List Line → Type 0
NoEntryFirst [] = Unit {0}
NoEntryFirst (l ∷ ls) = IsOtherLine l

-- the text begins with no line of an entry
abbrev pub NoEntryBegins : Known → List ℕ → Type 0
NoEntryBegins k text = (l : Line) (more : List ℕ) → IsLine k l → text ≡ line_text k l ++ more → IsOtherLine l

-- no line of an entry stands first where these lines stand before the text
abbrev pub NoEntryBehind : Known → List Line → List ℕ → Type 0
NoEntryBehind k [] text = NoEntryBegins k text
NoEntryBehind k (l ∷ ls) text = IsOtherLine l
