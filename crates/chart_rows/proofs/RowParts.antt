-- The rows of a group are of its tasks, processors and reservations.
use Rattle.std.proofs.Common.{◌≡◌, ◌∙◌, ℕ, zero, suc, ◌+◌, ◌<◌, ◌≤◌, true, List, [], ◌∷◌, ◌++◌, length, map, take, get_or, refl, sym, ap, subst, arith, All}
use Rattle.std.specs.Prelude.{◌==◌}
use Rattle.std.proofs.lemmas.List.{map-append, take_more}
use Rattle.rt_rules.specs.Distinct.{IsDistinct}
use Rattle.rt_rules.specs.Numbers.{has, numbers_from}
use Rattle.rt_rules.proofs.BoolLaws.{both, or_true}
use Rattle.rt_rules.proofs.MemberLaws.{equal_self, has-filter}
use Rattle.rt_rules.proofs.NumberLaws.{distinct-numbers_from, has-numbers_from, numbers_from-below}
use Rattle.rt_rules.proofs.PlacingLaws.{distinct-filter}
use Rattle.rt_model.specs.Group.{Group, group_processors, in_group, resv, tasks}
use Rattle.rt_plays.proofs.ProcessorLaws.{processors-distinct}
use Rattle.chart_texts.specs.Charts.{group_resvs}
use Rattle.chart_rows.specs.Listed.{AreListed, cpus_listed, tasks_listed}
use Rattle.chart_rows.specs.Rows.{CpuKept, ResvKept, RowsKept, TaskKept, cpu_kept, resv_kept, resvs_listed, rows_of, task_kept}
use Rattle.chart_rows.specs.Strips.{Strip}

all-of : {A : Type 0} (f : ℕ → A) (number : A → ℕ) → ((t : ℕ) → number (f t) ≡ t) → (us ts : List ℕ) → ((t : ℕ) → has t ts ≡ true → has t us ≡ true) → All (λ x. has (number x) us ≡ true) (map f ts)
all-of f number is us [] sub k d low = absurd (omega arith)
all-of f number is us (t ∷ ts) sub zero d low = ap (λ n. has n us) (is t) ∙ sub t (rw equal_self refl)
all-of f number is us (t ∷ ts) sub (suc k) d low = all-of f number is us ts (λ u h. sub u (rw h (or_true (u == t)))) k d (omega arith)

numbers-of : {A : Type 0} (f : ℕ → A) (number : A → ℕ) → ((t : ℕ) → number (f t) ≡ t) → (ts : List ℕ) → map number (map f ts) ≡ ts
numbers-of f number is [] = refl
numbers-of f number is (t ∷ ts) = λ i. is t i ∷ numbers-of f number is ts i

tasks-once : (g : Group) → IsDistinct (tasks g)
unfolding tasks
tasks-once g = distinct-filter _ _ (distinct-numbers_from 1 (length g.setup.tasks))

module _ (g : Group) (ss : List Strip) (s : Strip) (v : RowsKept) (is : v ≡ rows_of g ss s) where
  pub tasks-listed : All (λ (k : TaskKept). has k.task (tasks g) ≡ true) v.tasks
  unfolding rows_of
  tasks-listed = subst (λ (w : RowsKept). All (λ (k : TaskKept). has k.task (tasks g) ≡ true) w.tasks) (sym is) (all-of (task_kept g ss s) (λ (k : TaskKept). k.task) (λ t. refl) (tasks g) (tasks g) (λ t h. h))

  pub listed-once : IsDistinct (tasks_listed v.tasks)
  unfolding rows_of
  listed-once = subst IsDistinct (sym (ap (λ (w : RowsKept). tasks_listed w.tasks) is ∙ numbers-of (task_kept g ss s) (λ (k : TaskKept). k.task) (λ t. refl) (tasks g))) (tasks-once g)

  pub cpus-listed : All (λ (k : CpuKept). has k.cpu (group_processors g) ≡ true) v.cpus
  unfolding rows_of
  cpus-listed = subst (λ (w : RowsKept). All (λ (k : CpuKept). has k.cpu (group_processors g) ≡ true) w.cpus) (sym is) (all-of (cpu_kept g ss s) (λ (k : CpuKept). k.cpu) (λ t. refl) (group_processors g) (group_processors g) (λ t h. h))

  pub cpus-listed-once : IsDistinct (cpus_listed v.cpus)
  unfolding rows_of
  cpus-listed-once = subst IsDistinct (sym (ap (λ (w : RowsKept). cpus_listed w.cpus) is ∙ numbers-of (cpu_kept g ss s) (λ (k : CpuKept). k.cpu) (λ q. refl) (group_processors g))) (processors-distinct g)

  pub resvs-listed : All (λ (k : ResvKept). has k.resv (group_resvs g) ≡ true) v.resvs
  unfolding rows_of
  resvs-listed = subst (λ (w : RowsKept). All (λ (k : ResvKept). has k.resv (group_resvs g) ≡ true) w.resvs) (sym is) (all-of (resv_kept g ss s) (λ (k : ResvKept). k.resv) (λ t. refl) (group_resvs g) (group_resvs g) (λ t h. h))

-- a reservation of the group
pub record IsResvOf (g : Group) (r : ℕ) : Type 0 where
  pub low : 1 ≤ r
  pub high : r ≤ length g.setup.resvs
  pub here : in_group g (resv g r).cluster.0 ≡ true

pub resv-of : (g : Group) (r : ℕ) → has r (group_resvs g) ≡ true → IsResvOf g r
unfolding group_resvs
resv-of g r h =
    let two = both (has r (numbers_from 1 (length g.setup.resvs))) _ (rw (has-filter (λ u. in_group g (resv g u).cluster.0) r (numbers_from 1 (length g.setup.resvs))) at h) in
    let below : r < 1 + length g.setup.resvs = numbers_from-below r 1 (length g.setup.resvs) two.0 in
    record { low = has-numbers_from r 1 (length g.setup.resvs) two.0; high = omega (arith, below); here = two.1 }

-- one more is made
pub mapped-more : {A B C : Type 0} (shown : B → C) (f : A → C) (xs : List A) (i : ℕ) (d : A) (old new : List B) (p : B) → i < length xs → map shown old ≡ map f (take i xs) → shown p ≡ f (get_or xs i d) → new ≡ old ++ p ∷ []
    → map shown new ≡ map f (take (i + 1) xs)
mapped-more shown f xs i d old new p low before is made =
    ap (map shown) made ∙ map-append shown old (p ∷ []) ∙ (λ j. before j ++ is j ∷ []) ∙ sym (ap (map f) (take_more xs i d low) ∙ map-append f (take i xs) (get_or xs i d ∷ []))

-- they are listed
pub rows-listed : (g : Group) (ss : List Strip) (s : Strip) (v : RowsKept) → v ≡ rows_of g ss s → AreListed g v
rows-listed g ss s v is = record {
  tasks_are = tasks-listed g ss s v is;
  once = listed-once g ss s v is;
  cpus_are = cpus-listed g ss s v is;
  cpus_once = cpus-listed-once g ss s v is;
  resvs_are = resvs-listed g ss s v is;
}

pub resvs-of : (g : Group) (ss : List Strip) (s : Strip) (v : RowsKept) → v ≡ rows_of g ss s → resvs_listed v.resvs ≡ group_resvs g
unfolding rows_of
resvs-of g ss s v is = ap (λ (w : RowsKept). resvs_listed w.resvs) is ∙ numbers-of (resv_kept g ss s) (λ (k : ResvKept). k.resv) (λ r. refl) (group_resvs g)
