-- What clients are told one after the other.
use Rattle.std.proofs.Common.{◌≡◌, ℕ, true, List, [], ◌∷◌, ◌++◌, refl, ap, ◌∙◌}
use Rattle.std.specs.Prelude.{Option, ◌==◌}
use Rattle.rt_rules.specs.Numbers.{has}
use Rattle.rt_rules.proofs.BoolLaws.{or_true}
use Rattle.rt_rules.proofs.MemberLaws.{equal_self}
use Rattle.resv_core.specs.Served.{Served}
use Rattle.resv_core.specs.Kept.{told_now}
use Rattle.resv_core.specs.Serving.{for_task, told_each}
use Rattle.resv_core.proofs.ServingLaws.{for_task-keeps}

-- the releases of these tasks alone matter
pub told-same : (f f' : ℕ → Option ℕ) (ts : List ℕ) (v : Served) → ((t : ℕ) → has t ts ≡ true → f t ≡ f' t) → told_each f ts v ≡ told_each f' ts v
told-same f f' [] v same = refl
told-same f f' (t ∷ ts) v same =
    ap (λ o. told_each f ts (for_task t (told_now o t) v)) (same t (rw (equal_self t) refl))
    ∙ told-same f f' ts (for_task t (told_now (f' t) t) v) (λ u h. same u (rw h (or_true (u == t))))

pub told-clock : (f : ℕ → Option ℕ) (ts : List ℕ) (v : Served) → (told_each f ts v).clock ≡ v.clock
told-clock f [] v = refl
told-clock f (t ∷ ts) v = told-clock f ts (for_task t (told_now (f t) t) v) ∙ (for_task-keeps v t (told_now (f t) t)).clock

pub told-append : (f : ℕ → Option ℕ) (ts us : List ℕ) (v : Served) → told_each f (ts ++ us) v ≡ told_each f us (told_each f ts v)
told-append f [] us v = refl
told-append f (t ∷ ts) us v = told-append f ts us (for_task t (told_now (f t) t) v)
