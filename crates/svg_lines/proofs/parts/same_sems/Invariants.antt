use Rattle.std.proofs.Common.{◌≡◌, drop, length}
use Rattle.chart_cells.specs.Cells.{sem_numbers}
use Rattle.svg_texts.specs.Parts.{same_list}
use Rattle.svg_lines.proofs.parts.same_sems.Given as goal

-- what is left is equal where all is
abbrev pub invariant-loop-i : goal.invariant-loop-i
invariant-loop-i l = record {
  long : length l.a ≡ length l.b;
  rest : same_list (sem_numbers (drop l.i l.a)) (sem_numbers (drop l.i l.b)) ≡ same_list (sem_numbers l.a) (sem_numbers l.b);
}
