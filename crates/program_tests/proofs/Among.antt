-- Which processors a list has.
use Rattle.std.proofs.Common.{◌≡◌, ℕ, zero, suc, ◌<◌, true, List, [], ◌∷◌, length, get_or, refl, arith}
use Rattle.std.specs.Prelude.{◌==◌}
use Rattle.rt_base.specs.declared.CpuNo.{CpuNo}
use Rattle.rt_rules.specs.Numbers.{has}
use Rattle.rt_rules.proofs.BoolLaws.{or_true}
use Rattle.rt_rules.proofs.MemberLaws.{equal_self}
use Rattle.trace_text.specs.Groups.{cpu_numbers}

-- a processor that stands at a place of the list is one of its numbers
pub has_here : (qs : List CpuNo) (i : ℕ) (d : CpuNo) → i < length qs → has (get_or qs i d).0 (cpu_numbers qs) ≡ true
has_here [] i d h = absurd (omega (arith, h))
has_here (q ∷ qs) zero d h = rw (equal_self q.0) refl
has_here (q ∷ qs) (suc i) d h = rw (has_here qs i d (omega (arith, h))) (or_true ((get_or qs i d).0 == q.0))
