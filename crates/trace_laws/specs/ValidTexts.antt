-- The valid texts of a set, and how far a text begins as one of them.
use Rattle.std.specs.Prelude.{◌≡◌, ◌≢◌, ◌⊎◌, ℕ, List, [], ◌∷◌, ◌++◌, map, flat_map, sum, length, All}
use Rattle.rt_task.specs.declared.Parts.{Parts}
use Rattle.rt_rules.specs.declared.history.Entry.{Entry}
use Rattle.trace_lines.specs.declared.format.Version.{Version}
use Rattle.trace_tools.specs.Tools.{Tool}
use Rattle.trace_text.specs.TraceText.{trace_text}
use Rattle.trace_text.specs.CountLines.{counted_text}
use Rattle.rt_plays.specs.Plays.{ArePlays}

-- how many entries the histories have together
abbrev pub entry_count : List (List Entry) → ℕ
entry_count hs = sum (map (λ (es : List Entry). length es) hs)

-- the text of these histories, alone or with the count lines of all the tools behind it
abbrev pub IsTextOf : List Tool → Version → Parts → List (List Entry) → List ℕ → Type 0
IsTextOf tools version p histories text =
    (text ≡ trace_text version p histories) ⊎ (text ≡ counted_text version tools p histories)

-- the text, in this format, of plays of the set, one for each group
pub record IsValidText (tools : List Tool) (version : Version) (p : Parts) (text : List ℕ) (entries : ℕ) : Type 0 where
  pub histories : List (List Entry)
  pub plays : ArePlays p histories
  pub text_is : IsTextOf tools version p histories text
  pub count : entries ≡ entry_count histories

-- lines, each with its line feed
abbrev pub with_feeds : List (List ℕ) → List ℕ
with_feeds ws = flat_map (λ (w : List ℕ). w ++ 10 ∷ []) ws

-- two texts have the same first k lines, each with its line feed
pub record BeginAlike (k : ℕ) (text text' : List ℕ) : Type 0 where
  pub lines : List (List ℕ)
  pub rest : List ℕ
  pub rest' : List ℕ
  pub count : length lines ≡ k
  pub are_lines : All (λ (w : List ℕ). All (λ (c : ℕ). c ≢ 10) w) lines
  pub text_is : text ≡ with_feeds lines ++ rest
  pub text'_is : text' ≡ with_feeds lines ++ rest'

-- the first k lines are the first k lines of a valid text
pub record IsBegun (tools : List Tool) (version : Version) (p : Parts) (k : ℕ) (text : List ℕ) : Type 0 where
  pub whole : List ℕ
  pub entries : ℕ
  pub valid : IsValidText tools version p whole entries
  pub alike : BeginAlike k text whole
