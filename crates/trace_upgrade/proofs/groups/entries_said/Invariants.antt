use Rattle.std.proofs.Common.{◌≡◌, ℕ, false, List, [], length}
use Rattle.rt_rules.specs.declared.history.Entry.{Entry}
use Rattle.rt_model.specs.Group.{Group}
use Rattle.trace_text.specs.TraceText.{entry_lines}
use Rattle.trace_read.specs.Reading.{begins_with_digit}
use Rattle.trace_read.specs.Seen.{BeginsLines}
use Rattle.trace_upgrade.proofs.TextLaws.{EntriesLeft}
use Rattle.trace_upgrade.proofs.groups.entries_said.Given as goal

-- with the entries whose lines are left, there are all
abbrev pub invariant-loop-entry : goal.invariant-loop-entry
invariant-loop-entry l =
    (g : Group) (es : List Entry) (more : List ℕ) → BeginsLines l.k l.fn.text (entry_lines g 0 [] es) more → begins_with_digit more ≡ false → EntriesLeft l.k g es more l.entries.items l.left

abbrev pub decreases-loop-entry : goal.decreases-loop-entry
decreases-loop-entry l = length l.left
