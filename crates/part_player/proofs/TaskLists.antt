-- The tasks of a cluster, task by task.
use Rattle.std.proofs.Common.{◌≡◌, ℕ, zero, suc, ◌+◌, ◌-◌, Bool, true, false, List, [], ◌∷◌, ◌++◌, ap, ◌∙◌, arith}
use Rattle.std.specs.Prelude.{◌==◌, filter, if◌then◌else◌, slice_index_or}
use Rattle.std.proofs.lemmas.List.Elements.{filter-append}
use Rattle.rt_task.specs.declared.Task.{Task}
use Rattle.rt_rules.specs.Numbers.{numbers_from}
use Rattle.rt_model.specs.Group.{no_task}

-- the tasks of a cluster among the first n
abbrev pub tasks_among : List Task → ℕ → ℕ → List ℕ
tasks_among tasks c n = filter (λ t. (slice_index_or tasks (t - 1) no_task).cluster.0 == c) (numbers_from 1 n)

numbers-suc : (a n : ℕ) → numbers_from a (suc n) ≡ numbers_from a n ++ (a + n) ∷ []
numbers-suc a zero = let e : a ≡ a + 0 = omega arith in ap (λ m. m ∷ []) e
numbers-suc a (suc n) =
    let e : suc a + n ≡ a + suc n = omega arith in
    ap (λ l. a ∷ l) (numbers-suc (suc a) n ∙ ap (λ m. numbers_from (suc a) n ++ m ∷ []) e)

numbers-more : (a n : ℕ) → numbers_from a (n + 1) ≡ numbers_from a n ++ (a + n) ∷ []
numbers-more a n = let e : n + 1 ≡ suc n = omega arith in ap (numbers_from a) e ∙ numbers-suc a n

one-of : (f : ℕ → Bool) (t : ℕ) (b : Bool) → f t ≡ b → filter f (t ∷ []) ≡ (if b then t ∷ [] else [])
one-of f t true h = ap (λ c. if c then t ∷ [] else []) h
one-of f t false h = ap (λ c. if c then t ∷ [] else []) h

pub among-more : (tasks : List Task) (c n : ℕ) (b : Bool) → (slice_index_or tasks n no_task).cluster.0 == c ≡ b
    → tasks_among tasks c (n + 1) ≡ tasks_among tasks c n ++ (if b then (n + 1) ∷ [] else [])
among-more tasks c n b h =
    let f : ℕ → Bool = λ t. (slice_index_or tasks (t - 1) no_task).cluster.0 == c in
    let e : 1 + n - 1 ≡ n = omega arith in
    let same : 1 + n ≡ n + 1 = omega arith in
    ap (filter f) (numbers-more 1 n) ∙ filter-append f (numbers_from 1 n) ((1 + n) ∷ [])
    ∙ ap (λ l. tasks_among tasks c n ++ l) (one-of f (1 + n) b (ap (λ i. (slice_index_or tasks i no_task).cluster.0 == c) e ∙ h) ∙ ap (λ m. if b then m ∷ [] else []) same)
