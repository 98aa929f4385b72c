-- The text of a setup and its histories, through the line `end`.
use Rattle.std.specs.Prelude.{ℕ, ◌+◌, List, [], ◌∷◌, ◌++◌, map, flat_map, codes}
use Rattle.rt_task.specs.declared.Parts.{Parts}
use Rattle.rt_rules.specs.declared.history.Entry.{Entry}
use Rattle.rt_model.specs.Group.{Group, group_processors}
use Rattle.rt_model.specs.Past.{Past}
use Rattle.rt_model.specs.Links.{linked}
use Rattle.rt_model.specs.Histories.{after, changed, past_of}
use Rattle.rt_model.specs.Blocking.{Asked, requests, ends, ends_all, bound}
use Rattle.set_canonical.specs.Canonical.{canonical}
use Rattle.trace_lines.specs.Lines.{Link, Line, group_line, entry_line, block_line, end_line}
use Rattle.trace_lines.specs.declared.format.Version.{Version}
use Rattle.trace_lines.specs.FirstLine.{first_line}
use Rattle.trace_lines.specs.Grammar.{line_text}
use Rattle.trace_lines.specs.Known.{known_of}

-- the first two lines: that of the format, and that of the canonical set
abbrev pub head_text : Version → Parts → List ℕ
head_text version p = first_line version ++ (codes "set " ++ (canonical p ++ 10 ∷ []))

module _ (g : Group) where
  -- the links of these processors after a past
  abbrev pub links_at : Past → List ℕ → List Link
  links_at past qs = map (λ q. (q, linked g q past)) qs

  -- one line for each entry, numbered from i on, with the links that it changed
  unfoldable pub entry_lines : ℕ → Past → List Entry → List Line
  entry_lines i past [] = []
  entry_lines i past (e ∷ es) =
      let now : Past = after g e.step past in
      entry_line i e (links_at now (changed g past now)) ∷ entry_lines (i + 1) now es

  -- the line of a request
  abbrev pub block_of : Past → Asked → Line
  block_of past r =
      block_line r.no r.task r.sem (ends g r.no r.task r.sem past) (ends_all g r.no r.task r.sem past) (bound g r.task r.sem)

  -- one line for each request
  unfoldable pub block_lines : Past → List Line
  block_lines past = map (block_of past) (requests past)

  unfoldable pub group_lines : List Entry → List Line
  group_lines es = group_line g.number (links_at [] (group_processors g)) ∷ (entry_lines 0 [] es ++ block_lines (past_of g es))

-- the lines of the groups from a number on, each with its history, and the line `end`
abbrev pub lines_from : Parts → ℕ → List (List Entry) → List Line
lines_from p n [] = end_line ∷ []
lines_from p n (es ∷ more) = group_lines (record { setup = p; number = n }) es ++ lines_from p (n + 1) more

-- the text, in a format, of a setup and the histories of its groups, by rising number
unfoldable pub trace_text : Version → Parts → List (List Entry) → List ℕ
trace_text version p histories = head_text version p ++ flat_map (line_text (known_of version p)) (lines_from p 0 histories)
