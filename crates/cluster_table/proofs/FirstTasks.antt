-- The first of the eligible tasks: each once, no more than asked for, and those of the ranking.
use Rattle.std.proofs.Common.{◌≡◌, ℕ, ◌<◌, ◌≤◌, Bool, true, false, not, ◌&&◌, ◌||◌, eqb-true, List, [], ◌∷◌, length, take, refl, sym, ap, ◌∙◌, arith}
use Rattle.std.specs.Prelude.{◌==◌, Option, None, Some, if◌then◌else◌, is_some}
use Rattle.std.proofs.lemmas.List.{length-take}
use Rattle.rt_rules.specs.declared.Key.{Key}
use Rattle.rt_rules.specs.Distinct.{IsDistinct}
use Rattle.rt_rules.specs.Keys.{inserted}
use Rattle.rt_rules.specs.Numbers.{has, numbers_from}
use Rattle.rt_rules.specs.Rankings.{ranked_by, tasks_of}
use Rattle.rt_rules.proofs.BoolLaws.{and_false, both, or_true}
use Rattle.rt_rules.proofs.MemberLaws.{equal_self}
use Rattle.rt_rules.proofs.NumberLaws.{distinct-numbers_from, numbers_from-has}
use Rattle.rt_rules.proofs.RankedByLaws.{distinct-ranked_by, ranked_by-first, ranked_by-same, ranked_by-skip, ranked_by-with}
use Rattle.rt_rules.proofs.RankedLaws.{distinct-take}
use Rattle.ready_heap.specs.Row.{key_at}
use Rattle.ready_queue.specs.Queue.{first_tasks, in_order, is_in, key_in}
use Rattle.ready_queue.specs.ReadySet.{HoldsJust}
use Rattle.ready_queue.proofs.Refreshing.{others}

pub distinct-first_tasks : (most : ℕ) (keys : List (Option Key)) → IsDistinct (first_tasks most keys)
distinct-first_tasks most keys =
    distinct-take most (tasks_of (in_order keys)) (distinct-ranked_by (key_in keys) (is_in keys) (numbers_from 0 (length keys)) (distinct-numbers_from 0 (length keys)))

pub few-first_tasks : (most : ℕ) (keys : List (Option Key)) → length (first_tasks most keys) ≤ most
few-first_tasks most keys = omega (arith, length-take most (tasks_of (in_order keys)))

-- ---- a ranking goes by the tasks that pass, however they are listed

ranked-none : (key : ℕ → Key) (test : ℕ → Bool) (us : List ℕ) → ((t : ℕ) → false ≡ has t us && test t) → ranked_by key test us ≡ []
ranked-none key test [] none = refl
ranked-none key test (u ∷ us) none =
    let out : test u ≡ false = sym (rw (equal_self u) at (none u)) in
    ranked_by-skip key test u us out ∙ ranked-none key test us (λ t. by_case t (has t us) (none t))
  where
    by_case : (t : ℕ) (b : Bool) → false ≡ (t == u || b) && test t → false ≡ b && test t
    by_case t true h = h ∙ rw (or_true (t == u))
    by_case t false h = refl

same-members : (key : ℕ → Key) (test test' : ℕ → Bool) (ts us : List ℕ) → IsDistinct ts → IsDistinct us → ((t : ℕ) → has t ts && test t ≡ has t us && test' t)
    → ranked_by key test ts ≡ ranked_by key test' us
same-members key test test' [] us dt du same = sym (ranked-none key test' us same)
same-members key test test' (t ∷ ts) us dt du same = by_case (test t) refl (λ p. same-members key test p ts us dt.1 du)
  where
    here : test t ≡ has t us && test' t
    here = rw (equal_self t) at (same t)

    -- the first of the list passes, and is taken out of both
    apart : (u : ℕ) (b : Bool) → u == t ≡ b → (b || has u ts) && test u ≡ has u us && test' u → has u ts && test u ≡ has u us && (not b && test' u)
    apart u true e h = let is : u ≡ t = eqb-true u t e in rw (is, dt.0) (sym (and_false (has t us)))
    apart u false e h = h

    -- it does not pass
    skipped : (u : ℕ) (b : Bool) → u == t ≡ b → test t ≡ false → (b || has u ts) && test u ≡ has u us && test' u → has u ts && test u ≡ has u us && test' u
    skipped u true e out h = let is : u ≡ t = eqb-true u t e in rw (is, dt.0) (sym out ∙ here)
    skipped u false e out h = h

    by_case : (b : Bool) → test t ≡ b → ((p : ℕ → Bool) → ((u : ℕ) → has u ts && test u ≡ has u us && p u) → ranked_by key test ts ≡ ranked_by key p us)
        → ranked_by key test (t ∷ ts) ≡ ranked_by key test' us
    by_case true e rest =
        let there = both (has t us) (test' t) (sym here ∙ e) in
        ranked_by-first key test t ts e
        ∙ ap (λ rs. inserted (record { key = key t; task = t }) rs) (rest (others t test') (λ u. apart u (u == t) refl (same u)))
        ∙ sym (ranked_by-with key test' t us true du there.0 there.1)
    by_case false e rest = ranked_by-skip key test t ts e ∙ rest test' (λ u. skipped u (u == t) refl e (same u))

-- ---- the tasks of a set that holds just those that pass

pub in_order-holds : (ts : List ℕ) (key : ℕ → Key) (test : ℕ → Bool) (keys : List (Option Key)) → IsDistinct ts → HoldsJust ts key test keys → in_order keys ≡ ranked_by key test ts
in_order-holds ts key test keys once holds =
    ranked_by-same (key_in keys) key (is_in keys) (is_in keys) (numbers_from 0 (length keys)) (λ t h. refl) (λ t h k. kept t (sym (passes t) ∙ k))
    ∙ same-members key (is_in keys) test (numbers_from 0 (length keys)) ts (distinct-numbers_from 0 (length keys)) once (λ t. by_case t (has t ts) (passes t) (holds.room t))
  where
    some : (b : Bool) (k : Key) → is_some (if b then Some k else None) ≡ b
    some true k = refl
    some false k = refl

    -- in are those that pass, with their keys
    passes : (t : ℕ) → is_in keys t ≡ has t ts && test t
    passes t = ap is_some (holds.is_in t) ∙ some (has t ts && test t) (key t)

    kept : (t : ℕ) → has t ts && test t ≡ true → key_in keys t ≡ key t
    kept t h = let there : key_at keys t ≡ Some (key t) = rw h at (holds.is_in t) in rw there

    by_case : (t : ℕ) (b : Bool) → is_in keys t ≡ b && test t → (b ≡ true → t < length keys) → has t (numbers_from 0 (length keys)) && is_in keys t ≡ b && test t
    by_case t true h room = rw (numbers_from-has 0 (length keys) t (omega arith) (omega (arith, room refl))) h
    by_case t false h room = rw h (and_false (has t (numbers_from 0 (length keys))))

pub first_tasks-holds : (most : ℕ) (ts : List ℕ) (key : ℕ → Key) (test : ℕ → Bool) (keys : List (Option Key)) → IsDistinct ts → HoldsJust ts key test keys
    → first_tasks most keys ≡ take most (tasks_of (ranked_by key test ts))
first_tasks-holds most ts key test keys once holds = ap (λ rs. take most (tasks_of rs)) (in_order-holds ts key test keys once holds)
