-- The plain numbers of a list of tasks after one joins or the first leaves.
use Rattle.std.proofs.Common.{◌≡◌, ℕ, zero, suc, ◌+◌, ◌<◌, ◌≤◌, List, [], ◌∷◌, ◌++◌, length, drop, get_or, refl, ap, arith}
use Rattle.std.proofs.Math.ListN.{drop_of_length-le}
use Rattle.rt_base.specs.declared.TaskNo.{TaskNo}
use Rattle.rt_base.specs.TaskNos.{numbers}
use Rattle.rt_rules.specs.Numbers.{rest}

pub numbers-push : (ts : List TaskNo) (t : TaskNo) → numbers (ts ++ t ∷ []) ≡ numbers ts ++ t.0 ∷ []
numbers-push [] t = refl
numbers-push (u ∷ ts) t = ap (λ (ns : List ℕ). u.0 ∷ ns) (numbers-push ts t)

pub length-numbers : (ts : List TaskNo) → length (numbers ts) ≡ length ts
length-numbers [] = refl
length-numbers (t ∷ ts) = omega (arith, length-numbers ts)

pub numbers-rest : (ts : List TaskNo) → numbers (drop 1 ts) ≡ rest (numbers ts)
numbers-rest [] = refl
numbers-rest (t ∷ ts) = refl

-- ---- a line that is listed from a position on

pub numbers-added : (ts : List TaskNo) (t : TaskNo) (ns : List ℕ) → numbers (ts ++ t ∷ []) ++ ns ≡ numbers ts ++ t.0 ∷ ns
numbers-added [] t ns = refl
numbers-added (u ∷ ts) t ns = ap (λ (ms : List ℕ). u.0 ∷ ms) (numbers-added ts t ns)

-- from a position on, the list begins with what stands there
pub numbers-from : (ts : List TaskNo) (t : TaskNo) (i j : ℕ) → i < length ts → t ≡ get_or ts i t → j ≡ i + 1 → numbers (drop i ts) ≡ t.0 ∷ numbers (drop j ts)
numbers-from [] t i j low read e = absurd (omega arith)
numbers-from (x ∷ ts) t zero zero low read e = absurd (omega arith)
numbers-from (x ∷ ts) t zero (suc j) low read e = let s : j ≡ 0 = omega arith in rw (← read, s)
numbers-from (x ∷ ts) t (suc i) zero low read e = absurd (omega arith)
numbers-from (x ∷ ts) t (suc i) (suc j) low read e = numbers-from ts t i j (omega arith) read (omega arith)

pub numbers-ended : (ts : List TaskNo) (i : ℕ) → length ts ≤ i → numbers (drop i ts) ≡ []
numbers-ended ts i h = rw (drop_of_length-le ts h)
