-- Tasks one after another.
use Rattle.std.proofs.Common.{◌≡◌, ◌∙◌, ℕ, suc, ◌+◌, ◌-◌, ◌<◌, ◌≤◌, List, [], ◌∷◌, ◌++◌, ap, sym, refl, append_assoc, arith}
use Rattle.std.proofs.lemmas.Grind.{common_steps}
use Rattle.rt_task.specs.declared.Task.{Task}
use Rattle.load_set.specs.Draws.{after_four, draw_from}
use Rattle.load_set.specs.Load.{task_of, tasks_from}

tasks_from-next : (n i x : ℕ) → tasks_from (suc n) i x ≡ task_of i (draw_from x) ∷ tasks_from n (suc i) (after_four x)
unfolding tasks_from
tasks_from-next n i x = refl

tasks_from-none : (i x : ℕ) → tasks_from 0 i x ≡ []
unfolding tasks_from
tasks_from-none i x = refl

append-none : (ts : List Task) → ts ++ [] ≡ ts
append-none ts = grind (arith, common_steps)

pub one-more : (ts : List Task) (t : Task) (all : List Task) (count i x y : ℕ) → i < count → t ≡ task_of (i + 1) (draw_from x) → y ≡ after_four x
    → ts ++ tasks_from (count - i) (i + 1) x ≡ all → (ts ++ t ∷ []) ++ tasks_from (count - (i + 1)) ((i + 1) + 1) y ≡ all
one-more ts t all count i x y below is after so_far =
    let left : count - i ≡ suc (count - (i + 1)) = omega arith in
    let next : suc (i + 1) ≡ (i + 1) + 1 = omega arith in
    append_assoc ts (t ∷ []) (tasks_from (count - (i + 1)) ((i + 1) + 1) y)
    ∙ ap (λ (rest : List Task). ts ++ rest) (ap (λ (u : Task). u ∷ tasks_from (count - (i + 1)) ((i + 1) + 1) y) is ∙ ap (λ (s : ℕ). task_of (i + 1) (draw_from x) ∷ tasks_from (count - (i + 1)) ((i + 1) + 1) s) after
    ∙ ap (λ (k : ℕ). task_of (i + 1) (draw_from x) ∷ tasks_from (count - (i + 1)) k (after_four x)) (sym next) ∙ sym (tasks_from-next (count - (i + 1)) (i + 1) x) ∙ ap (λ (k : ℕ). tasks_from k (i + 1) x) (sym left))
    ∙ so_far

pub all-there : (ts all : List Task) (count i x : ℕ) → count ≤ i → ts ++ tasks_from (count - i) (i + 1) x ≡ all → ts ≡ all
all-there ts all count i x past so_far =
    let none : count - i ≡ 0 = omega arith in
    sym (append-none ts) ∙ ap (λ (rest : List Task). ts ++ rest) (sym (tasks_from-none (i + 1) x)) ∙ ap (λ (k : ℕ). ts ++ tasks_from k (i + 1) x) (sym none) ∙ so_far
