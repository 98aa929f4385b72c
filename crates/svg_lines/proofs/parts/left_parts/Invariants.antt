use Rattle.std.proofs.Common.{◌≡◌, ◌++◌, map, drop}
use Rattle.svg_texts.specs.Parts as spec
use Rattle.svg_lines.specs.Shown.{part_shown}
use Rattle.svg_lines.proofs.parts.left_parts.Given as goal

-- the parts so far, and then those of the rest, are all
abbrev pub invariant-loop-units : goal.invariant-loop-units
invariant-loop-units l = map part_shown l.parts.items ++ map spec.left (drop l.units-index l.left) ≡ map spec.left l.left
