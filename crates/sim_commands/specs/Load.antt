-- What a load prints: of the set that is generated for a number, what its histories come to, and what tools count of them.
use Rattle.std.specs.Prelude.{ℕ, List, [], ◌∷◌, ◌++◌, codes, decimal, flat_map}
use Rattle.rt_task.specs.declared.Parts.{Parts}
use Rattle.rt_rules.specs.declared.history.Entry.{Entry}
use Rattle.rt_fault.specs.Held.{Extends, ExtendsByPrefix}
use Rattle.rt_plays.specs.Order.{histories}
use Rattle.load_set.specs.Load.{load_of}
use Rattle.trace_lines.specs.declared.format.Version.TheVariants.{Two}
use Rattle.trace_lines.specs.Grammar.{line_text}
use Rattle.trace_lines.specs.Known.{known_of}
use Rattle.trace_tools.specs.Tools.{Tool}
use Rattle.trace_writer.specs.declared.summary.Summary.{Summary}
use Rattle.trace_text.specs.CountLines.{count_lines}
use Rattle.trace_writer.specs.Summaries.{summary_from}
use Rattle.set_input.specs.Ends.{Writing}
use Rattle.set_input.specs.Throughout.{HoldsThroughout}

-- a line: a word, a number, and what follows it
abbrev pub number_line : List ℕ → ℕ → List ℕ → List ℕ
number_line word n rest = word ++ (decimal n ++ (rest ++ 10 ∷ []))

-- the first four lines, by what the histories come to; no OMLP request of a cluster of four processors sees more than seven ends
unfoldable pub summary_text : ℕ → Summary → List ℕ
summary_text n s =
    number_line (codes "load ") n []
    ++ (number_line (codes "entries ") s.entries []
    ++ (number_line (codes "requests ") s.requests [] ++ number_line (codes "most ") s.most (codes " of 7")))

-- and the count lines
abbrev pub load_text : List Tool → ℕ → List ℕ
load_text tools n =
    let p : Parts = load_of n in
    let hs : List (List Entry) = histories p in
    summary_text n (summary_from p 0 hs) ++ flat_map (line_text (known_of Two p)) (count_lines tools p hs)

-- the text of a load came; what it stands for holds after each entry
pub record WasLoaded (tools : List Tool) (n : ℕ) (sink : Writing) : Type 0 where
  pub written : Extends sink.old.held sink.new.held (load_text tools n)
  pub holds : HoldsThroughout (load_of n) (histories (load_of n))

-- a first part of it came
abbrev pub LoadWasCut : List Tool → ℕ → Writing → Type 0
LoadWasCut tools n sink = ExtendsByPrefix sink.old.held sink.new.held (load_text tools n)
