use Rattle.std.proofs.Common.{◌≡◌, drop, length}
use Rattle.chart_cells.specs.Cells.{cpu_numbers}
use Rattle.svg_texts.specs.Parts.{same_list}
use Rattle.svg_lines.proofs.parts.same_cpus.Given as goal

-- what is left is equal where all is
abbrev pub invariant-loop-i : goal.invariant-loop-i
invariant-loop-i l = record {
  long : length l.a ≡ length l.b;
  rest : same_list (cpu_numbers (drop l.i l.a)) (cpu_numbers (drop l.i l.b)) ≡ same_list (cpu_numbers l.a) (cpu_numbers l.b);
}
