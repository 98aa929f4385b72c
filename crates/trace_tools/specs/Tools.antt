-- Tools: a state of numbers, and the four rules by which it changes and is read.
use Rattle.std.specs.Prelude.{ℕ, zero, suc, Bool, List, [], ◌∷◌, Option, None, Some, if◌then◌else◌}
use Rattle.rt_base.specs.declared.TheConstants.{MOST_TOTALS}
use Rattle.trace_lines.specs.Lines.{Line, count_line}
use Rattle.trace_tools.specs.declared.shown.Shown.{Shown}

pub record Rules : Type 0 where
  -- the state after an entry that is shown
  pub next : List ℕ → Shown → List ℕ
  -- the total with a number, from 0 on, if there is one
  pub total : List ℕ → ℕ → Option ℕ
  -- whether a state has ended
  pub ended : List ℕ → Bool
  -- the tool's name, a letter of ASCII
  pub name : ℕ

pub record Tool : Type 0 where
  pub rules : Rules
  pub state : List ℕ

-- the tool after an entry that it was fed
abbrev pub fed : Shown → Tool → Tool
fed e t = record t { state = t.rules.next t.state e }

abbrev pub total_of : Tool → ℕ → Option ℕ
total_of t i = t.rules.total t.state i

abbrev pub has_ended : Tool → Bool
has_ended t = t.rules.ended t.state

-- the tool after an entry that is shown: one that has ended is not fed
abbrev pub when_shown : Shown → Tool → Tool
when_shown e t = if has_ended t then t else fed e t

-- the tool after all these entries, in order
abbrev pub after : List Shown → Tool → Tool
after [] t = t
after (e ∷ es) t = after es (when_shown e t)

-- its totals from number i on, up to the first that there is none of, and n at most
abbrev pub totals_from : ℕ → ℕ → Tool → List ℕ
totals_from zero i t = []
totals_from (suc n) i t = elim (total_of t i) [ None ↦ [] | Some x ↦ x ∷ totals_from n (suc i) t ]

unfoldable pub totals : Tool → List ℕ
totals t = totals_from MOST_TOTALS 0 t

-- the count line of a tool
abbrev pub line_of : Tool → Line
line_of t = count_line t.rules.name (totals t)
