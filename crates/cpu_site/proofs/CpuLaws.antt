-- The processors of a group, counted through the clusters in order.
use Rattle.std.proofs.Common.{◌≡◌, ℕ, zero, suc, ◌+◌, ◌-◌, ◌<◌, ◌≤◌, List, [], ◌∷◌, ◌++◌, length, drop, refl, ap, arith, append_assoc}
use Rattle.rt_base.specs.declared.CpuNo.{CpuNo}
use Rattle.rt_task.specs.declared.Parts.{Parts}
use Rattle.rt_task.specs.Validity.{IsValid}
use Rattle.rt_rules.specs.Numbers.{numbers_from}
use Rattle.rt_plays.proofs.ProcessorLaws.{cpu_count}
use Rattle.rt_plays.proofs.SetLimits.{sets_are_in_limits}
use Rattle.cpu_site.specs.Cpus.{cpu_numbers}

-- numbers from a up to e
pub numbers_more : (xs : List ℕ) (a e : ℕ) → a < e → (xs ++ a ∷ []) ++ numbers_from (a + 1) (e - (a + 1)) ≡ xs ++ numbers_from a (e - a)
numbers_more xs a e h =
    let one_more : e - a ≡ suc (e - suc a) = omega arith in
    let next : a + 1 ≡ suc a = omega arith in
    rw (one_more, next, append_assoc) refl

pub cpu_numbers_push : (qs : List CpuNo) (q : ℕ) → cpu_numbers (qs ++ record { 0 = q } ∷ []) ≡ cpu_numbers qs ++ q ∷ []
cpu_numbers_push [] q = refl
cpu_numbers_push (x ∷ qs) q = ap (λ ns. x.0 ∷ ns) (cpu_numbers_push qs q)

pub numbers_start : (a n : ℕ) → numbers_from a (a + n - a) ≡ numbers_from a n
numbers_start a n = ap (numbers_from a) (omega arith)

-- a valid set has few processors
pub few_cpus : (p : Parts) → IsValid p → cpu_count p.clusters ≤ 64
few_cpus p valid = (sets_are_in_limits p valid).few_cpus

pub drop_end : {A : Type 0} (xs : List A) (n : ℕ) → length xs ≤ n → drop n xs ≡ []
drop_end [] zero h = refl
drop_end [] (suc n) h = refl
drop_end (x ∷ xs) zero h = absurd (omega arith)
drop_end (x ∷ xs) (suc n) h = drop_end xs n (omega arith)
