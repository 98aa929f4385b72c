use Rattle.std.proofs.Common.{◌≡◌, ℕ, false, List, length, map}
use Rattle.rt_model.specs.Blocking.{Asked}
use Rattle.rt_model.specs.Group.{Group}
use Rattle.rt_model.specs.Past.{Past}
use Rattle.trace_lines.specs.Known.{Known}
use Rattle.trace_text.specs.TraceText.{block_of}
use Rattle.trace_read.specs.Movers.{begins_with}
use Rattle.trace_read.specs.Seen.{BeginsLines, Tells}
use Rattle.trace_upgrade.proofs.groups.behind_blocks.Given as goal

-- lines of requests are left, and then comes what stands behind all
abbrev pub invariant-loop-left : goal.invariant-loop-left
invariant-loop-left l =
    (k : Known) (g : Group) (past : Past) (asked : List Asked) (more : List ℕ) → Tells k → BeginsLines k l.fn.text (map (block_of g past) asked) more → begins_with 98 more ≡ false
    → (later : List Asked) × BeginsLines k l.left (map (block_of g past) later) more

abbrev pub decreases-loop-left : goal.decreases-loop-left
decreases-loop-left l = length l.left
