-- The top of a cluster has each task once, and no more than the cluster has processors.
use Rattle.std.proofs.Common.{◌≡◌, ℕ, ◌≤◌, List, [], ◌∷◌, length, map, refl, ap, arith}
use Rattle.std.specs.Prelude.{◌==◌, filter}
use Rattle.std.proofs.lemmas.List.{length-take}
use Rattle.rt_rules.specs.Distinct.{IsDistinct}
use Rattle.rt_rules.specs.Keys.{Ranked, sorted}
use Rattle.rt_rules.specs.Numbers.{numbers_from}
use Rattle.rt_model.specs.EffectiveKeys.{effective_key}
use Rattle.rt_model.specs.Group.{Group, cpus, tasks, tasks_of, in_group, home}
use Rattle.rt_model.specs.Past.{Past}
use Rattle.rt_model.specs.Tops.{eligible, ranking, top}
use Rattle.rt_rules.proofs.PlacingLaws.{distinct-filter}
use Rattle.rt_rules.proofs.RankedLaws.{tasks_ranked, distinct-sorted, distinct-take}
use Rattle.rt_rules.proofs.NumberLaws.{distinct-numbers_from}

pub tasks-ranked : (g : Group) (past : Past) (ts : List ℕ) → tasks_ranked (map (λ t. record { key = effective_key g t past; task = t }) ts) ≡ ts
tasks-ranked g past [] = refl
tasks-ranked g past (t ∷ ts) = ap (λ xs. t ∷ xs) (tasks-ranked g past ts)

pub distinct-tasks_of : (g : Group) (c : ℕ) → IsDistinct (tasks_of g c)
unfolding tasks_of tasks
distinct-tasks_of g c =
    let all : List ℕ = numbers_from 1 (length g.setup.tasks) in
    distinct-filter (λ t. home g t == c) (filter (λ t. in_group g (home g t)) all) (distinct-filter (λ t. in_group g (home g t)) all (distinct-numbers_from 1 (length g.setup.tasks)))

pub distinct-top : (g : Group) (c : ℕ) (past : Past) → IsDistinct (top g c past)
unfolding top ranking
distinct-top g c past =
    let ts : List ℕ = filter (λ t. eligible g t past) (tasks_of g c) in
    let rs : List Ranked = map (λ t. record { key = effective_key g t past; task = t }) ts in
    let d : IsDistinct ts = distinct-filter (λ t. eligible g t past) (tasks_of g c) (distinct-tasks_of g c) in
    let e : IsDistinct (tasks_ranked rs) = rw (tasks-ranked g past ts) d in
    distinct-take (cpus g c) (tasks_ranked (sorted rs)) (distinct-sorted rs e)

pub length-top : (g : Group) (c : ℕ) (past : Past) → length (top g c past) ≤ cpus g c
unfolding top
length-top g c past = rw length-take (omega arith)
