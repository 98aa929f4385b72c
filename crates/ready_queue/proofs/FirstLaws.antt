-- Which tasks are the first ones, as one task is given a key or taken out.
use Rattle.std.proofs.Common.{◌≡◌, ℕ, zero, suc, ◌<◌, Bool, true, false, ◌||◌, cond, List, [], ◌∷◌, length, set, take, refl, sym, ap, ◌∙◌, subst}
use Rattle.std.proofs.lemmas.List.{set-get_or, take-map}
use Rattle.std.specs.Prelude.{◌==◌, Option, None, Some, is_some, unwrap_or}
use Rattle.rt_rules.specs.declared.Key.{Key}
use Rattle.rt_rules.specs.KeyOrder.{lowest_key}
use Rattle.rt_rules.specs.Keys.{Ranked, ahead, inserted}
use Rattle.rt_rules.specs.Numbers.{has, numbers_from}
use Rattle.rt_rules.specs.Rankings.{tasks_of, without_task}
use Rattle.rt_rules.proofs.BoolLaws.{clash, neither, or_else, or_middle}
use Rattle.rt_rules.proofs.MemberLaws.{equal_self}
use Rattle.rt_rules.proofs.NumberLaws.{distinct-numbers_from}
use Rattle.rt_rules.proofs.RankedByLaws.{distinct-ranked_by}
use Rattle.rt_rules.proofs.RankedLaws.{has-take}
use Rattle.ready_heap.specs.Row.{key_at}
use Rattle.ready_queue.specs.Queue.{IsSplit, Queue, first_tasks, in_order, is_first, is_in, key_in}
use Rattle.ready_queue.proofs.ReadySets.{at_set}
use Rattle.ready_queue.proofs.SplitLaws.{has-without, in_order-set}

-- ---- one task put in among others

-- it is none of the first ones
inserted-out : (m : ℕ) (a : Ranked) (rs : List Ranked) → has a.task (take m (tasks_of (inserted a rs))) ≡ false → take m (tasks_of (inserted a rs)) ≡ take m (tasks_of rs)
inserted-out zero a rs out = refl
inserted-out (suc m) a [] out = absurd (clash (a.task == a.task) (equal_self a.task) (neither _ _ out).0)
inserted-out (suc m) a (r ∷ rs) out = by_case (ahead a r) out (inserted-out m a rs)
  where
    by_case : (b : Bool) → has a.task (take (suc m) (tasks_of (cond b (a ∷ r ∷ rs) (r ∷ inserted a rs)))) ≡ false
        → (has a.task (take m (tasks_of (inserted a rs))) ≡ false → take m (tasks_of (inserted a rs)) ≡ take m (tasks_of rs))
        → take (suc m) (tasks_of (cond b (a ∷ r ∷ rs) (r ∷ inserted a rs))) ≡ take (suc m) (tasks_of (r ∷ rs))
    by_case true h rest = absurd (clash (a.task == a.task) (equal_self a.task) (neither _ _ h).0)
    by_case false h rest = ap (λ ts. r.task ∷ ts) (rest (neither _ _ h).1)

-- it is one of them, and the others are the first of the others
inserted-within : (m : ℕ) (a : Ranked) (rs : List Ranked) → has a.task (tasks_of rs) ≡ false → has a.task (take (suc m) (tasks_of (inserted a rs))) ≡ true
    → (u : ℕ) → has u (take (suc m) (tasks_of (inserted a rs))) ≡ u == a.task || has u (take m (tasks_of rs))
inserted-within m a [] absent h u = refl
inserted-within m a (r ∷ rs) absent h u = by_case (ahead a r) h (λ n k. inserted-within n a rs apart.1 k u)
  where
    apart : (a.task == r.task ≡ false) × (has a.task (tasks_of rs) ≡ false)
    apart = neither (a.task == r.task) (has a.task (tasks_of rs)) absent

    later : ((n : ℕ) → has a.task (take (suc n) (tasks_of (inserted a rs))) ≡ true → has u (take (suc n) (tasks_of (inserted a rs))) ≡ u == a.task || has u (take n (tasks_of rs)))
        → (n : ℕ) → has a.task (take n (tasks_of (inserted a rs))) ≡ true → u == r.task || has u (take n (tasks_of (inserted a rs))) ≡ u == a.task || has u (take n (tasks_of (r ∷ rs)))
    later rest zero k = cc
    later rest (suc n) k = ap (λ b. u == r.task || b) (rest n k) ∙ or_middle (u == r.task) (u == a.task) (has u (take n (tasks_of rs)))

    by_case : (b : Bool) → has a.task (take (suc m) (tasks_of (cond b (a ∷ r ∷ rs) (r ∷ inserted a rs)))) ≡ true
        → ((n : ℕ) → has a.task (take (suc n) (tasks_of (inserted a rs))) ≡ true → has u (take (suc n) (tasks_of (inserted a rs))) ≡ u == a.task || has u (take n (tasks_of rs)))
        → has u (take (suc m) (tasks_of (cond b (a ∷ r ∷ rs) (r ∷ inserted a rs)))) ≡ u == a.task || has u (take m (tasks_of (r ∷ rs)))
    by_case true k rest = refl
    by_case false k rest = later rest m (or_else (a.task == r.task) (has a.task (take m (tasks_of (inserted a rs)))) k apart.0)

module _ (keys : List (Option Key)) (t : ℕ) (low : t < length keys) where
  -- the others in order
  abbrev others : List Ranked
  others = without_task t (in_order keys)

  absent : has t (tasks_of others) ≡ false
  absent = has-without t t (in_order keys) (distinct-ranked_by (key_in keys) (is_in keys) (numbers_from 0 (length keys)) (distinct-numbers_from 0 (length keys))) ∙ rw (equal_self t) refl

  -- the task among them, where it has a key
  abbrev with_it : Option Key → List Ranked
  with_it None = others
  with_it (Some k) = inserted (record { key = k; task = t }) others

  abbrev put : Option Key → List Ranked
  put x = cond (is_some x) (inserted (record { key = unwrap_or x lowest_key; task = t }) others) others

  in_order-with : (o : Option Key) → in_order (set keys t o) ≡ with_it o
  in_order-with o = in_order-set keys t o low ∙ ap (λ x. put x) (at_set keys t t o low ∙ rw (equal_self t) refl) ∙ as_with o
    where
      as_with : (x : Option Key) → put x ≡ with_it x
      as_with None = refl
      as_with (Some k) = refl

  abbrev firsts : ℕ → Option Key → List ℕ
  firsts m o = take m (tasks_of (with_it o))

  out : (m : ℕ) (o : Option Key) → has t (firsts m o) ≡ false → firsts m o ≡ take m (tasks_of others)
  out m None h = refl
  out m (Some k) h = inserted-out m (record { key = k; task = t }) others h

  within : (m : ℕ) (o : Option Key) → has t (firsts (suc m) o) ≡ true → (u : ℕ) → has u (firsts (suc m) o) ≡ u == t || has u (take m (tasks_of others))
  within m None h = absurd (clash (has t (tasks_of others)) (has-take t (suc m) (tasks_of others) h) absent)
  within m (Some k) h = inserted-within m (record { key = k; task = t }) others absent h

  same-with : (m : ℕ) (o x : Option Key) → has t (firsts m o) ≡ has t (firsts m x) → (u : ℕ) → has u (firsts m o) ≡ has u (firsts m x)
  same-with m o x same u = by_case (has t (firsts m o)) refl m refl
    where
      by_case : (b : Bool) → has t (firsts m o) ≡ b → (n : ℕ) → m ≡ n → has u (firsts m o) ≡ has u (firsts m x)
      by_case false e n is = ap (has u) (out m o e ∙ sym (out m x (sym same ∙ e)))
      by_case true e zero is = let none : false ≡ true = rw is at e in cc
      by_case true e (suc n) is =
          let here = subst (λ j. has t (firsts j o) ≡ true) is e in
          let there = subst (λ j. has t (firsts j x) ≡ true) is (sym same ∙ e) in
          subst (λ j. has u (firsts j o) ≡ has u (firsts j x)) (sym is) (within n o here u ∙ sym (within n x there u))

-- where a task stays one of the first ones, or none of them, they are the same ones
pub same-first : (q : Queue) (t : ℕ) (o : Option Key) → t < length q.keys → is_first q t ≡ is_first (record q { keys = set q.keys t o }) t
    → (u : ℕ) → is_first q u ≡ is_first (record q { keys = set q.keys t o }) u
same-first q t o low stays u = as_with old u ∙ same-with q.keys t low q.most old o (sym (as_with old t) ∙ stays ∙ now t) u ∙ sym (now u)
  where
    old : Option Key
    old = key_at q.keys t

    now : (v : ℕ) → is_first (record q { keys = set q.keys t o }) v ≡ has v (firsts q.keys t low q.most o)
    now v = ap (λ rs. has v (take q.most (tasks_of rs))) (in_order-with q.keys t low o)

    as_with : (x : Option Key) (v : ℕ) → is_first q v ≡ has v (firsts q.keys t low q.most old)
    as_with x v = ap (λ ks. has v (first_tasks q.most ks)) (sym (set-get_or q.keys t None)) ∙ ap (λ rs. has v (take q.most (tasks_of rs))) (in_order-with q.keys t low old)

-- ---- what the queue keeps as the first ones

pub first-top : (q : Queue) (top : List Ranked) (rest : List (Option Key)) → IsSplit q top rest → (t : ℕ) → has t (tasks_of top) ≡ is_first q t
first-top q top rest s t = ap (λ rs. has t (tasks_of rs)) s.top_is ∙ ap (has t) (sym (take-map (λ (r : Ranked). r.task) q.most (in_order q.keys)))
