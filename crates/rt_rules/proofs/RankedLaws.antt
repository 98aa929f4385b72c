-- A list in the order of its keys has the same tasks, each once.
use Rattle.rt_rules.proofs.MemberLaws.{turned}
use Rattle.std.proofs.Common.{Bool, List, [], ap, cond, false, inl, inr, map, refl, suc, take, true, zero, ℕ, ◌||◌, ◌∙◌, ◌∷◌, ◌≡◌, ◌⊎◌}
use Rattle.std.specs.Prelude.{◌==◌}
use Rattle.rt_rules.specs.Distinct.{IsDistinct}
use Rattle.rt_rules.specs.Keys.{Ranked, ahead, inserted, sorted}
use Rattle.rt_rules.specs.Numbers.{has}
use Rattle.rt_rules.proofs.BoolLaws.{either, or_middle, or_true, unless, neither}

abbrev pub tasks_ranked : List Ranked → List ℕ
tasks_ranked rs = map (λ (r : Ranked). r.task) rs

pub has-inserted : (t : ℕ) (a : Ranked) (bs : List Ranked) → has t (tasks_ranked (inserted a bs)) ≡ t == a.task || has t (tasks_ranked bs)
has-inserted t a [] = refl
has-inserted t a (b ∷ bs) = by_case (ahead a b) (has-inserted t a bs)
  where
    by_case : (c : Bool) → has t (tasks_ranked (inserted a bs)) ≡ t == a.task || has t (tasks_ranked bs) → has t (tasks_ranked (cond c (a ∷ b ∷ bs) (b ∷ inserted a bs))) ≡ t == a.task || (t == b.task || has t (tasks_ranked bs))
    by_case true h = refl
    by_case false h = rw h (or_middle (t == b.task) (t == a.task) (has t (tasks_ranked bs)))

pub distinct-inserted : (a : Ranked) (bs : List Ranked) → has a.task (tasks_ranked bs) ≡ false → IsDistinct (tasks_ranked bs) → IsDistinct (tasks_ranked (inserted a bs))
distinct-inserted a [] h d = (refl, tt)
distinct-inserted a (b ∷ bs) h d = by_case (ahead a b) (distinct-inserted a bs)
  where
    by_case : (c : Bool) → (has a.task (tasks_ranked bs) ≡ false → IsDistinct (tasks_ranked bs) → IsDistinct (tasks_ranked (inserted a bs))) → IsDistinct (tasks_ranked (cond c (a ∷ b ∷ bs) (b ∷ inserted a bs)))
    by_case true rest = (h, d)
    by_case false rest =
        let p = neither (a.task == b.task) (has a.task (tasks_ranked bs)) h in
        (rw (has-inserted b.task a bs, turned b.task a.task, p.0) d.0, rest p.1 d.1)

pub has-sorted : (t : ℕ) (rs : List Ranked) → has t (tasks_ranked (sorted rs)) ≡ has t (tasks_ranked rs)
has-sorted t [] = refl
has-sorted t (a ∷ rs) = has-inserted t a (sorted rs) ∙ ap (λ b. t == a.task || b) (has-sorted t rs)

pub distinct-sorted : (rs : List Ranked) → IsDistinct (tasks_ranked rs) → IsDistinct (tasks_ranked (sorted rs))
distinct-sorted [] d = tt
distinct-sorted (a ∷ rs) d = distinct-inserted a (sorted rs) (has-sorted a.task rs ∙ d.0) (distinct-sorted rs d.1)

pub has-take : (t n : ℕ) (ts : List ℕ) → has t (take n ts) ≡ true → has t ts ≡ true
has-take t zero ts h = cc
has-take t (suc n) [] h = cc
has-take t (suc n) (u ∷ ts) h = join (either (t == u) _ h) (has-take t n ts)
  where
    join : (t == u ≡ true) ⊎ (has t (take n ts) ≡ true) → (has t (take n ts) ≡ true → has t ts ≡ true) → t == u || has t ts ≡ true
    join (inl k) rest = rw k
    join (inr k) rest = rw (rest k) (or_true (t == u))

pub distinct-take : (n : ℕ) (ts : List ℕ) → IsDistinct ts → IsDistinct (take n ts)
distinct-take zero ts d = tt
distinct-take (suc n) [] d = tt
distinct-take (suc n) (t ∷ ts) d = (unless (has t (take n ts)) (λ h. let k = has-take t n ts h in let m = d.0 in cc), distinct-take n ts d.1)
