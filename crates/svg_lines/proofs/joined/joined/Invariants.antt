use Rattle.std.proofs.Common.{◌≡◌, ◌++◌, ◌∷◌, drop, flat_map}
use Rattle.std.specs.List.{join_with_byte}
use Rattle.svg_lines.specs.Words.{word_items}
use Rattle.svg_lines.proofs.joined.joined.Given as goal

-- what was written, and then each word that is left behind a separator, is the whole
abbrev pub invariant-loop-i : goal.invariant-loop-i
invariant-loop-i l = l.text.items ++ flat_map (λ w. l.separator ∷ w) (word_items (drop l.i l.words)) ≡ join_with_byte l.separator (word_items l.words)
