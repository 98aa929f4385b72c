-- The first line of a trace, which names its format.
use Rattle.std.specs.Prelude.{ℕ, List, codes}
use Rattle.trace_lines.specs.declared.format.Version.{Version}
use Rattle.trace_lines.specs.declared.format.Version.TheVariants.{One, Two}

abbrev pub first_line : Version → List ℕ
first_line One = codes "rtsched trace 1\n"
first_line Two = codes "rtsched trace 2\n"
