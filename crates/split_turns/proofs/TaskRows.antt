-- The row of a task by its number.
use Rattle.std.proofs.Common.{◌≡◌, ℕ, zero, suc, ◌-◌, ◌<◌, ◌≤◌, List, [], ◌∷◌, length, refl, sym, ap, ◌∙◌, arith}
use Rattle.std.proofs.lemmas.List.{get_or_default}
use Rattle.std.specs.Prelude.{slice_index_or}
use Rattle.rt_task.specs.declared.Parts.{Parts}
use Rattle.rt_task.specs.declared.Task.{Task}
use Rattle.rt_model.specs.Group.{first_cpu, first_in, home, no_task, task}
use Rattle.rt_plays.specs.Plays.{group_with}
use Rattle.split_rules.specs.SemHistories.{seat_of}

beyond : (xs : List Task) (i : ℕ) → length xs ≤ i → slice_index_or xs i no_task ≡ no_task
beyond [] i h = refl
beyond (x ∷ xs) zero h = absurd (omega (arith, h))
beyond (x ∷ xs) (suc i) h = beyond xs i (omega (arith, h))

pub row-there : (p : Parts) (t : ℕ) (rows : List Task) (row : Task) → rows ≡ p.tasks → t - 1 < length rows → row ≡ slice_index_or rows (t - 1) row
    → row ≡ task (group_with p 0) t
unfolding task
row-there p t rows row same low is = is ∙ get_or_default rows (t - 1) row no_task low ∙ ap (λ (us : List Task). slice_index_or us (t - 1) no_task) same

pub row-none : (p : Parts) (t : ℕ) (rows : List Task) → rows ≡ p.tasks → length rows ≤ t - 1 → no_task ≡ task (group_with p 0) t
unfolding task
row-none p t rows same high = sym (ap (λ (us : List Task). slice_index_or us (t - 1) no_task) (sym same) ∙ beyond rows (t - 1) high)

pub seat-by : (p : Parts) (t : ℕ) (row : Task) → row ≡ task (group_with p 0) t → first_in p.clusters row.cluster.0 ≡ seat_of (group_with p 0) t
unfolding seat_of first_cpu home
seat-by p t row is = ap (λ (x : Task). first_in p.clusters x.cluster.0) is
