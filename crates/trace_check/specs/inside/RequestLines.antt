-- The lines of requests, as they are wanted, and as they stand in a text.
use Rattle.std.specs.Prelude.{◌≡◌, ℕ, ◌<◌, ◌≤◌, List, ◌++◌, flat_map, length, map, take, drop, slice_index_or}
use Rattle.rt_changes.specs.Tallies.{Tally}
use Rattle.trace_lines.specs.Grammar.{line_text}
use Rattle.trace_lines.specs.Known.{Known}
use Rattle.trace_lines.specs.Lines.{Line}
use Rattle.trace_text.specs.Groups.{request_line}
use Rattle.trace_check.specs.declared.requests.Stood.{Stood}

-- one line for each request
abbrev pub request_lines : List Tally → List Line
request_lines xs = map request_line xs

-- of the lines that are wanted so many stand first in the text, with so many bytes, and where that is not all the next one does not follow
pub record HaveStood (k : Known) (wanted : List Line) (text : List ℕ) (s : Stood) : Type 0 where
  pub low : s.count ≤ length wanted
  pub within : s.length ≤ length text
  pub text_is : text ≡ flat_map (line_text k) (take s.count wanted) ++ drop s.length text
  pub other : (d : Line) (more : List ℕ) → s.count < length wanted
      → drop s.length text ≡ line_text k (slice_index_or wanted s.count d) ++ more → ⊥
