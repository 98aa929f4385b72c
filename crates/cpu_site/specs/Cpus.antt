-- The numbers of processors.
use Rattle.std.specs.Prelude.{ℕ, List, map}
use Rattle.rt_base.specs.declared.CpuNo.{CpuNo}

abbrev pub cpu_numbers : List CpuNo → List ℕ
cpu_numbers qs = map (λ (q : CpuNo). q.0) qs
