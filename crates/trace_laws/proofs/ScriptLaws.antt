-- Scripts: what holds of the steps of each one's processor holds of all steps.
use Rattle.std.proofs.Common.{◌≡◌, ℕ, zero, suc, ◌<◌, Bool, true, false, cond, List, [], ◌∷◌, length, get_or, arith}
use Rattle.std.specs.Prelude.{All, filter, ◌==◌}
use Rattle.std.proofs.lemmas.List.Elements.{All-tail}
use Rattle.rt_task.specs.declared.Step.{Step}
use Rattle.rt_rules.proofs.MemberLaws.{equal_self}
use Rattle.rt_plays.specs.Scripts.{script}

-- what holds of those that pass a test holds of one that passes it
filter-at : {A : Type 0} (P : A → Type 0) (test : A → Bool) (xs : List A) (k : ℕ) (d : A) → All P (filter test xs) → k < length xs → test (get_or xs k d) ≡ true → P (get_or xs k d)
filter-at P test [] k d all lt h = absurd (omega arith)
filter-at P test (x ∷ xs) zero d all lt h = by_case (test x) h all
  where
    by_case : (b : Bool) → b ≡ true → All P (cond b (x ∷ filter test xs) (filter test xs)) → P x
    by_case true e m = m 0 d (omega arith)
    by_case false e m = cc
filter-at P test (x ∷ xs) (suc k) d all lt h = filter-at P test xs k d (by_case (test x) all) (omega arith) h
  where
    by_case : (b : Bool) → All P (cond b (x ∷ filter test xs) (filter test xs)) → All P (filter test xs)
    by_case true m = All-tail P x (filter test xs) m
    by_case false m = m

-- what holds of the script of each step's processor holds of each step
pub all-by_script : (P : Step → Type 0) (steps : List Step) → All (λ (s : Step). All P (script steps s.cpu.0)) steps → All P steps
all-by_script P steps all k d lt =
    let q : ℕ = (get_or steps k d).cpu.0 in
    filter-at P (λ (s : Step). s.cpu.0 == q) steps k d (all k d lt) lt (equal_self q)
