-- Whether a task declares a semaphore.
use Rattle.std.specs.Prelude.{Bool, List, map}
use Rattle.rt_base.specs.declared.SemNo.{SemNo}
use Rattle.rt_rules.specs.Numbers.{has}

abbrev pub is_declared : SemNo → List SemNo → Bool
is_declared s uses = has s.0 (map (λ (n : SemNo). n.0) uses)
