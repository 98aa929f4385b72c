-- Reservations at the opening serve nobody.
use Rattle.std.proofs.Common.{◌≡◌, ℕ, zero, suc, length, refl, ap, List, ◌∷◌}
use Rattle.std.proofs.lemmas.List.{length-map}
use Rattle.std.specs.Prelude.{Option, None, replicate}
use Rattle.rt_base.specs.TaskNos.{numbers_of_tasks}
use Rattle.rt_base.specs.declared.TaskNo.{TaskNo}
use Rattle.rt_task.specs.declared.Parts.{Parts}
use Rattle.resv_core.specs.Served.{opened, opened_server}

pub opened-count : (p : Parts) (n : ℕ) → length (opened p n).servers ≡ length p.resvs
unfolding opened
opened-count p n = length-map p.resvs (opened_server p n)

pub numbers-nobody : (n : ℕ) → numbers_of_tasks (replicate n None) ≡ replicate n None
numbers-nobody zero = refl
numbers-nobody (suc n) = ap (λ (xs : List (Option ℕ)). None ∷ xs) (numbers-nobody n)

pub length-nobody : (n : ℕ) → length (replicate {A = Option TaskNo} n None) ≡ n
length-nobody zero = refl
length-nobody (suc n) = ap suc (length-nobody n)
