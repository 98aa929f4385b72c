-- The list of requests, with the position of each task's newest one.
use Rattle.std.proofs.Common.{Bool, List, [], All, ap, arith, eqb-true, false, inl, inr, length, length-append, map, refl, subst, sym, true, ℕ, ◌&&◌, ◌++◌, ◌+◌, ◌∙◌, ◌∷◌, ◌≡◌, ◌≢◌, ◌<◌, ◌≤◌, ◌⊎◌}
use borrow.Author.Tests.{ltb-true, ltb-false}
use Rattle.std.proofs.lemmas.List.{get_or-map, get_or-set_other, get_or-set_same, get_or_append_left, get_or_at, length-map, map-id}
use Rattle.std.proofs.lemmas.List.Elements.{All-map}
use Rattle.std.specs.Prelude.{None, Option, Some, if◌then◌else◌, nat_lt, slice_index_or, slice_set, ◌==◌}
use Rattle.rt_rules.specs.Numbers.{has, is}
use Rattle.rt_rules.proofs.BoolLaws.{clash, neither, unless}
use Rattle.rt_rules.proofs.MemberLaws.{equal_self}
use Rattle.rt_changes.specs.Tallies.{Tally, Waiter, blocked_in, counted, counted_at, newest_from, newest_of, seen_by, waiter_tasks}
use Rattle.rt_changes.proofs.requests.Feeding.{newest-push}
use Rattle.block_counts.specs.Positions.{ArePositions, IsFew, IsPositionOf, no_tally, seen_at, seen_in, seen_one}
use Rattle.block_counts.proofs.Lists.{map-same-at, map-same-but}

-- ---- what counting leaves
seen_by-keeps : (o : Option Bool) (x : Tally) → ((seen_by o x).no ≡ x.no) × ((seen_by o x).task ≡ x.task)
seen_by-keeps None x = (refl, refl)
seen_by-keeps (Some b) x = (refl, refl)

pub counted_at-keeps : (s : ℕ) (ws : List Waiter) (all : List Tally) (x : Tally) → ((counted_at s ws all x).no ≡ x.no) × ((counted_at s ws all x).task ≡ x.task)
counted_at-keeps s ws all x = by_case (x.sem == s && is x.no (newest_of x.task all))
  where
    by_case : (b : Bool) → ((if b then seen_by (blocked_in x.task ws) x else x).no ≡ x.no) × ((if b then seen_by (blocked_in x.task ws) x else x).task ≡ x.task)
    by_case true = seen_by-keeps (blocked_in x.task ws) x
    by_case false = (refl, refl)

newest-kept : (f : Tally → Tally) → ((x : Tally) → ((f x).no ≡ x.no) × ((f x).task ≡ x.task)) → (t : ℕ) (xs : List Tally) (o : Option ℕ) → newest_from t o (map f xs) ≡ newest_from t o xs
newest-kept f keeps t [] o = refl
newest-kept f keeps t (x ∷ xs) o = rw ((keeps x).0, (keeps x).1) (newest-kept f keeps t xs (if t == x.task then Some x.no else o))

at-map : (f : Tally → Tally) (xs : List Tally) (i : ℕ) → i < length xs → slice_index_or (map f xs) i no_tally ≡ f (slice_index_or xs i no_tally)
at-map f xs i low = get_or-map f xs i no_tally no_tally low

pub positions-counted : (s : ℕ) (ws : List Waiter) (xs : List Tally) (positions : List (Option ℕ)) → ArePositions xs positions → ArePositions (counted s ws xs) positions
positions-counted s ws xs positions are = record { placed = placed; none = λ t h. newest-kept f keeps t xs None ∙ are.none t h; rising = rising }
  where
    f : Tally → Tally
    f = counted_at s ws xs

    keeps : (x : Tally) → ((f x).no ≡ x.no) × ((f x).task ≡ x.task)
    keeps = counted_at-keeps s ws xs

    same_length : length (map f xs) ≡ length xs
    same_length = length-map xs f

    no_at : (i : ℕ) → i < length xs → (slice_index_or (map f xs) i no_tally).no ≡ (slice_index_or xs i no_tally).no
    no_at i low = ap (λ (x : Tally). x.no) (at-map f xs i low) ∙ (keeps (slice_index_or xs i no_tally)).0

    placed : (t i : ℕ) → slice_index_or positions t None ≡ Some i → IsPositionOf (map f xs) t i
    placed t i h =
        let p = are.placed t i h in
        record {
          low = rw same_length p.low;
          task_is = ap (λ (x : Tally). x.task) (at-map f xs i p.low) ∙ (keeps (slice_index_or xs i no_tally)).1 ∙ p.task_is;
          newest = newest-kept f keeps t xs None ∙ p.newest ∙ ap {B = Option ℕ} (λ n. Some n) (sym (no_at i p.low));
        }

    rising : (j k : ℕ) → j < k → k < length (map f xs) → (slice_index_or (map f xs) j no_tally).no < (slice_index_or (map f xs) k no_tally).no
    rising j k less low =
        let inside : k < length xs = rw same_length at low in
        let before : j < length xs = omega (arith, less, inside) in
        omega (arith, are.rising j k less inside, no_at j before, no_at k inside)

pub few-counted : (n s : ℕ) (ws : List Waiter) (xs : List Tally) → All (IsFew n) xs → All (IsFew (n + 1)) (counted s ws xs)
few-counted n s ws xs few = All-map (IsFew (n + 1)) (counted_at s ws xs) xs (λ k d low. one _ (few k d low))
  where
    of_seen : (o : Option Bool) (x : Tally) → IsFew n x → IsFew (n + 1) (seen_by o x)
    of_seen None x h = record { ends_few = omega (arith, h.ends_few); all_few = omega (arith, h.all_few) }
    of_seen (Some true) x h = record { ends_few = omega (arith, h.ends_few); all_few = omega (arith, h.all_few) }
    of_seen (Some false) x h = record { ends_few = omega (arith, h.ends_few); all_few = omega (arith, h.all_few) }

    one : (x : Tally) → IsFew n x → IsFew (n + 1) (counted_at s ws xs x)
    one x h = by_case (x.sem == s && is x.no (newest_of x.task xs))
      where
        by_case : (b : Bool) → IsFew (n + 1) (if b then seen_by (blocked_in x.task ws) x else x)
        by_case true = of_seen (blocked_in x.task ws) x h
        by_case false = of_seen None x h

-- ---- one more waiting task
blocked-other : (t : ℕ) (ws : List Waiter) (w : Waiter) → t == w.task ≡ false → blocked_in t (ws ++ w ∷ []) ≡ blocked_in t ws
blocked-other t [] w h = rw h refl
blocked-other t (v ∷ ws) w h = ap (λ o. if t == v.task then Some v.blocked else o) (blocked-other t ws w h)

blocked-absent : (t : ℕ) (ws : List Waiter) → has t (waiter_tasks ws) ≡ false → blocked_in t ws ≡ None
blocked-absent t [] h = refl
blocked-absent t (v ∷ ws) h = let p = neither (t == v.task) (has t (waiter_tasks ws)) h in rw p.0 (blocked-absent t ws p.1)

blocked-last : (ws : List Waiter) (w : Waiter) → has w.task (waiter_tasks ws) ≡ false → blocked_in w.task (ws ++ w ∷ []) ≡ Some w.blocked
blocked-last [] w h = rw (equal_self w.task) refl
blocked-last (v ∷ ws) w h = let p = neither (w.task == v.task) (has w.task (waiter_tasks ws)) h in rw p.0 (blocked-last ws w p.1)

counted-nobody : (s : ℕ) (all : List Tally) (x : Tally) → counted_at s [] all x ≡ x
counted-nobody s all x = by_case (x.sem == s && is x.no (newest_of x.task all))
  where
    by_case : (b : Bool) → (if b then x else x) ≡ x
    by_case true = refl
    by_case false = refl

pub counted-none : (s : ℕ) (xs : List Tally) → counted s [] xs ≡ xs
counted-none s xs = map-same-at (counted_at s [] xs) (λ x. x) no_tally xs (λ j low. counted-nobody s xs _) ∙ map-id xs

-- a request is counted no other way where it is another task's, or not its task's newest
counted-alike : (s : ℕ) (ws : List Waiter) (w : Waiter) (all : List Tally) (x : Tally) → (x.task == w.task ≡ false) ⊎ (is x.no (newest_of x.task all) ≡ false) → counted_at s ws all x ≡ counted_at s (ws ++ w ∷ []) all x
counted-alike s ws w all x (inl h) = rw (blocked-other x.task ws w h) refl
counted-alike s ws w all x (inr h) = rw h (by_case (x.sem == s))
  where
    by_case : (b : Bool) → (if b && false then seen_by (blocked_in x.task ws) x else x) ≡ (if b && false then seen_by (blocked_in x.task (ws ++ w ∷ [])) x else x)
    by_case true = refl
    by_case false = refl

pub counted-more : (s : ℕ) (w : Waiter) (ws : List Waiter) (xs : List Tally) (positions : List (Option ℕ)) → ArePositions xs positions → has w.task (waiter_tasks ws) ≡ false → seen_one positions s w (counted s ws xs) ≡ counted s (ws ++ w ∷ []) xs
counted-more s w ws xs positions are fresh = by_position (slice_index_or positions w.task None) refl
  where
    f : Tally → Tally
    f = counted_at s ws xs

    h : Tally → Tally
    h = counted_at s (ws ++ w ∷ []) xs

    -- where the task has no request
    unasked : newest_of w.task xs ≡ None → (x : Tally) → f x ≡ h x
    unasked none x = by_case (x.task == w.task) refl
      where
        by_case : (b : Bool) → x.task == w.task ≡ b → f x ≡ h x
        by_case true k = let same : x.task ≡ w.task = eqb-true x.task w.task k in let gone : newest_of x.task xs ≡ None = ap (λ t. newest_of t xs) same ∙ none in counted-alike s ws w xs x (inr (rw gone refl))
        by_case false k = counted-alike s ws w xs x (inl k)

    -- the newest request of the task
    newest : (x : Tally) → x.task ≡ w.task → newest_of w.task xs ≡ Some x.no → seen_at s w.blocked (f x) ≡ h x
    newest x same k =
        let own : newest_of x.task xs ≡ Some x.no = ap (λ t. newest_of t xs) same ∙ k in
        let before : blocked_in x.task ws ≡ None = ap (λ t. blocked_in t ws) same ∙ blocked-absent w.task ws fresh in
        let after : blocked_in x.task (ws ++ w ∷ []) ≡ Some w.blocked = ap (λ t. blocked_in t (ws ++ w ∷ [])) same ∙ blocked-last ws w fresh in
        rw (own, equal_self x.no, before, after) (by_case (x.sem == s) refl)
      where
        by_case : (b : Bool) → x.sem == s ≡ b → seen_at s w.blocked (if b && true then x else x) ≡ (if b && true then seen_by (Some w.blocked) x else x)
        by_case true e = rw e refl
        by_case false e = rw e refl

    other : (i : ℕ) → IsPositionOf xs w.task i → (j : ℕ) → j < length xs → j ≢ i → f (slice_index_or xs j no_tally) ≡ h (slice_index_or xs j no_tally)
    other i p j low apart = by_case ((slice_index_or xs j no_tally).task == w.task) refl
      where
        no_i : ℕ
        no_i = (slice_index_or xs i no_tally).no

        no_j : ℕ
        no_j = (slice_index_or xs j no_tally).no

        differ : no_j == no_i ≡ false
        differ = unless _ (λ k. sides (eqb-true no_j no_i k) (nat_lt j i) refl)
          where
            sides : no_j ≡ no_i → (b : Bool) → nat_lt j i ≡ b → ⊥
            sides same true e = let less : no_j < no_i = are.rising j i (ltb-true j i e) p.low in omega (arith, less, same)
            sides same false e =
                let out : i ≤ j = ltb-false j i e in
                let after : i < j = omega (arith, out, apart) in
                let less : no_i < no_j = are.rising i j after low in
                omega (arith, less, same)

        by_case : (b : Bool) → (slice_index_or xs j no_tally).task == w.task ≡ b → f (slice_index_or xs j no_tally) ≡ h (slice_index_or xs j no_tally)
        by_case false k = counted-alike s ws w xs _ (inl k)
        by_case true k =
            let same : (slice_index_or xs j no_tally).task ≡ w.task = eqb-true _ w.task k in
            let own : newest_of (slice_index_or xs j no_tally).task xs ≡ Some no_i = ap (λ t. newest_of t xs) same ∙ p.newest in
            counted-alike s ws w xs _ (inr (rw own differ))

    by_position : (o : Option ℕ) → slice_index_or positions w.task None ≡ o → seen_in o s w.blocked (map f xs) ≡ map h xs
    by_position None e = map-same-at f h no_tally xs (λ j low. unasked (are.none w.task e) _)
    by_position (Some i) e =
        let p = are.placed w.task i e in
        ap (λ y. slice_set (map f xs) i (seen_at s w.blocked y)) (at-map f xs i p.low) ∙ ap (λ y. slice_set (map f xs) i y) (newest (slice_index_or xs i no_tally) p.task_is p.newest) ∙ map-same-but f h no_tally xs i p.low (other i p)

-- ---- one more request
pub positions-push : (n : ℕ) (x : Tally) (xs : List Tally) (positions : List (Option ℕ)) → ArePositions xs positions → All (λ (y : Tally). y.no < n) xs → x.no ≡ n → x.task < length positions → ArePositions (xs ++ x ∷ []) (slice_set positions x.task (Some (length xs)))
positions-push n x xs positions are below no_is there = record { placed = λ t i h. placed t i (t == x.task) refl h; none = λ t h. none t (t == x.task) refl h; rising = λ j k less low. rising j k less (nat_lt k (length xs)) refl low }
  where
    last : slice_index_or (xs ++ x ∷ []) (length xs) no_tally ≡ x
    last = get_or_at xs x [] no_tally (length xs) refl

    more : length (xs ++ x ∷ []) ≡ length xs + 1
    more = length-append xs (x ∷ [])

    before : (j : ℕ) → j < length xs → slice_index_or (xs ++ x ∷ []) j no_tally ≡ slice_index_or xs j no_tally
    before j low = get_or_append_left xs (x ∷ []) no_tally j low

    own : slice_index_or (slice_set positions x.task (Some (length xs))) x.task None ≡ Some (length xs)
    own = get_or-set_same positions x.task (Some (length xs)) None there

    newest : (t : ℕ) → newest_of t (xs ++ x ∷ []) ≡ (if t == x.task then Some x.no else newest_of t xs)
    newest t = newest-push t xs None x

    apart : (t : ℕ) → t == x.task ≡ false → t ≢ x.task
    apart t k e = clash _ (rw (← e) (equal_self t)) k

    placed : (t i : ℕ) (b : Bool) → t == x.task ≡ b → slice_index_or (slice_set positions x.task (Some (length xs))) t None ≡ Some i → IsPositionOf (xs ++ x ∷ []) t i
    placed t i true k h =
        let same : t ≡ x.task = eqb-true t x.task k in
        let here : Some (length xs) ≡ Some i = sym own ∙ ap (λ u. slice_index_or (slice_set positions x.task (Some (length xs))) u None) (sym same) ∙ h in
        let at : length xs ≡ i = cc in
        subst (IsPositionOf (xs ++ x ∷ []) t) at (record { low = omega (arith, more); task_is = ap (λ (y : Tally). y.task) last ∙ sym same; newest = newest t ∙ rw k (ap (λ (y : Tally). Some y.no) (sym last)) })
    placed t i false k h =
        let p = are.placed t i (sym (get_or-set_other positions x.task t (Some (length xs)) None (apart t k)) ∙ h) in
        record { low = omega (arith, more, p.low); task_is = ap (λ (y : Tally). y.task) (before i p.low) ∙ p.task_is; newest = newest t ∙ rw k (p.newest ∙ ap (λ (y : Tally). Some y.no) (sym (before i p.low))) }

    none : (t : ℕ) (b : Bool) → t == x.task ≡ b → slice_index_or (slice_set positions x.task (Some (length xs))) t None ≡ None → newest_of t (xs ++ x ∷ []) ≡ None
    none t true k h =
        let same : t ≡ x.task = eqb-true t x.task k in
        let here : Some (length xs) ≡ None = sym own ∙ ap (λ u. slice_index_or (slice_set positions x.task (Some (length xs))) u None) (sym same) ∙ h in
        cc
    none t false k h = newest t ∙ rw k (are.none t (sym (get_or-set_other positions x.task t (Some (length xs)) None (apart t k)) ∙ h))

    rising : (j k : ℕ) → j < k → (b : Bool) → nat_lt k (length xs) ≡ b → k < length (xs ++ x ∷ []) → (slice_index_or (xs ++ x ∷ []) j no_tally).no < (slice_index_or (xs ++ x ∷ []) k no_tally).no
    rising j k less true e low = let inside : k < length xs = ltb-true k (length xs) e in rw (before k inside, before j (omega (arith, less, inside))) (are.rising j k less inside)
    rising j k less false e low =
        let out : length xs ≤ k = ltb-false k (length xs) e in
        let at : k ≡ length xs = omega (arith, out, low, more) in
        let inside : j < length xs = omega (arith, less, at) in
        let value : slice_index_or (xs ++ x ∷ []) k no_tally ≡ x = ap (λ i. slice_index_or (xs ++ x ∷ []) i no_tally) at ∙ last in
        rw (value, before j inside, no_is) (below j no_tally inside)
