-- What is said of a trace: where its head is wrong, which line is, and where nothing is refused.
use Rattle.std.specs.Prelude.{ℕ, ◌-◌, ◌==◌, List, [], ◌∷◌, ◌++◌, codes, decimal, length, take, if◌then◌else◌}
use Rattle.rt_task.specs.declared.Parts.{Parts}
use Rattle.set_canonical.specs.Canonical.{canonical}
use Rattle.set_explain.specs.Rules.{Rule}
use Rattle.trace_check.specs.LinesAlike.{behind_lines}
use Rattle.explain_command.specs.Lines.{line_length}

abbrev pub valid_set : List ℕ
valid_set = codes "nothing is refused: a valid set\n"

abbrev pub valid_trace : List ℕ
valid_trace = codes "nothing is refused: a valid trace\n"

-- ---- the head

abbrev pub first_rule : Rule
first_rule = record { member = codes "first line"; says = codes "rtsched trace 1 or rtsched trace 2" }

abbrev pub second_rule : Rule
second_rule = record { member = codes "second line"; says = codes "set, a space and the text of a set" }

-- the rule of a line of the head
abbrev pub head_rule : ℕ → Rule
head_rule line = if line == 1 then first_rule else second_rule

-- where the set stands whose refusal is explained
unfoldable pub in_trace : List ℕ
in_trace = codes "in: line 2 of the trace, where the text of the set begins at column 5\n"

-- ---- a wrong line

abbrev pub said : List ℕ → List ℕ → List ℕ
said word line = word ++ line ++ 10 ∷ []

-- the line that a text begins with, as it stands
unfoldable pub here : List ℕ → List ℕ
here rest =
    if length rest == 0 then codes "missing: the text ends before it\n"
    else (if line_length rest == length rest then said (codes "here, without a line feed: ") rest
    else said (codes "here: ") (take (line_length rest) rest))

unfoldable pub none_goes_on : List ℕ
none_goes_on = codes ": a valid trace of this set has the lines before it, and none has this one behind them\n"

unfoldable pub line_head : ℕ → List ℕ
line_head line = codes "line " ++ decimal line ++ none_goes_on

-- the second line has to be that of the canonical set
abbrev pub wanted : Parts → ℕ → List ℕ
wanted p line = if line == 2 then said (codes "wanted: set ") (canonical p) else []

unfoldable pub wrong_line : List ℕ → Parts → ℕ → List ℕ
wrong_line bytes p line = line_head line ++ here (behind_lines (line - 1) bytes) ++ wanted p line
