use Rattle.std.proofs.Common.{◌≡◌, ◌++◌, vec_len}
use Rattle.event_lines.specs.WholeText.{whole_text}
use Rattle.event_lines.proofs.text_pieces.Pieces.pop.Given as goal

-- no byte was lost
abbrev pub invariant-loop-self : goal.invariant-loop-self
invariant-loop-self l = whole_text l.self-inside.whole.items ++ l.self-inside.last.items ≡ l.fn.self

abbrev pub decreases-loop-self : goal.decreases-loop-self
decreases-loop-self l = vec_len l.self-inside.whole
