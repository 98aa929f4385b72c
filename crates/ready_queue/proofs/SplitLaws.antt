-- The first tasks and the rest, as a task is put in or taken out.
use Rattle.std.proofs.Common.{◌≡◌, ℕ, zero, suc, ◌+◌, ◌<◌, ◌≤◌, Bool, true, false, ◌&&◌, ◌||◌, cond, eqb-true, List, [], ◌∷◌, ◌++◌, length, map, set, take, drop, refl, sym, ap, ◌∙◌, subst, arith, length-set, append-nil}
use Rattle.std.proofs.lemmas.Bool.Decides.{nat_tests}
use Rattle.std.proofs.lemmas.List.{length-append, take-append-drop, take-map, take_all, get_or_past, set-get_or}
use Rattle.std.proofs.Math.Seq.{take-append_seam}
use Rattle.std.proofs.lemmas.List.Sums.{sum_by-cons}
use Rattle.std.specs.Prelude.{◌==◌, filter, replicate, nat_lt, Option, None, Some, is_some, unwrap_or}
use Rattle.rt_rules.specs.declared.Key.{Key}
use Rattle.rt_rules.specs.KeyOrder.{higher, lowest_key}
use Rattle.rt_rules.specs.Distinct.{IsDistinct}
use Rattle.rt_rules.specs.Keys.{Ranked, ahead, inserted, sorted}
use Rattle.rt_rules.specs.Numbers.{has, numbers_from}
use Rattle.rt_rules.specs.Rankings.{ranked_by, tasks_of, without_task}
use Rattle.rt_rules.proofs.BoolLaws.{and_false, both, clash, or_true, neither, unless}
use Rattle.rt_rules.proofs.MemberLaws.{equal_self, turned}
use Rattle.rt_rules.proofs.NumberLaws.{numbers_from-has, distinct-numbers_from, numbers_from-below}
use Rattle.rt_rules.proofs.RankedByLaws.{distinct-ranked_by, has-ranked_by, length-inserted, ranked_by-same}
use Rattle.rt_rules.proofs.RankedLaws.{distinct-inserted, distinct-take, has-inserted, has-take}
use Rattle.ready_heap.specs.Row.{key_at}
use Rattle.ready_heap.specs.Ready.{size, IsFirst}
use Rattle.ready_queue.specs.Queue.{Queue, key_in, is_in, in_order, IsSplit}
use Rattle.ready_queue.specs.RankedTasks.{IsInOrder}
use Rattle.ready_queue.specs.ReadySet.{HoldsJust}
use Rattle.ready_queue.specs.Refreshed.{AgreeBut, put_back}
use Rattle.ready_queue.proofs.OrderedLaws.{in_order-sorted, in_order-take, inserted-last}
use Rattle.ready_queue.proofs.Refreshing.{others, ranking_is_refreshed, without-absent}
use Rattle.ready_queue.proofs.ReadySets.{at_set, first-ranked, none-at, none-ranked}

-- ---- the first m of a list, as one of it is taken out or put in

pub take-without : (m : ℕ) (t : ℕ) (rs : List Ranked) → has t (tasks_of (take m rs)) ≡ true
    → take m (without_task t rs) ≡ without_task t (take m rs) ++ take 1 (drop m rs)
take-without zero t rs h = cc
take-without (suc m) t [] h = cc
take-without (suc m) t (r ∷ rs) h = by_case (r.task == t) refl (take-without m t rs)
  where
    more : (n : ℕ) (xs : List Ranked) → take (suc n) xs ≡ take n xs ++ take 1 (drop n xs)
    more zero [] = refl
    more zero (x ∷ xs) = refl
    more (suc n) [] = refl
    more (suc n) (x ∷ xs) = ap (λ ys. x ∷ ys) (more n xs)

    by_case : (b : Bool) → r.task == t ≡ b
        → (has t (tasks_of (take m rs)) ≡ true → take m (without_task t rs) ≡ without_task t (take m rs) ++ take 1 (drop m rs))
        → take (suc m) (cond b rs (r ∷ without_task t rs)) ≡ cond b (take m rs) (r ∷ without_task t (take m rs)) ++ take 1 (drop m rs)
    by_case true e rest = more m rs
    by_case false e rest =
        let other : t == r.task ≡ false = turned t r.task ∙ e in
        ap (λ ys. r ∷ ys) (rest (rw other at h))

pub take-without-later : (m : ℕ) (t : ℕ) (rs : List Ranked) → has t (tasks_of (take m rs)) ≡ false
    → take m (without_task t rs) ≡ take m rs
take-without-later zero t rs h = refl
take-without-later (suc m) t [] h = refl
take-without-later (suc m) t (r ∷ rs) h =
    let q = neither (t == r.task) (has t (tasks_of (take m rs))) h in
    let other : r.task == t ≡ false = turned r.task t ∙ q.0 in
    rw other (ap (λ ys. r ∷ ys) (take-without-later m t rs q.1))

pub take-inserted : (m : ℕ) (a : Ranked) (rs : List Ranked) → take m (inserted a (take m rs)) ≡ take m (inserted a rs)
take-inserted zero a rs = refl
take-inserted (suc m) a [] = refl
take-inserted (suc m) a (r ∷ rs) = by_case (ahead a r) (take-inserted m a rs)
  where
    shorter : (n : ℕ) (xs : List Ranked) → take n (take (suc n) xs) ≡ take n xs
    shorter zero xs = refl
    shorter (suc n) [] = refl
    shorter (suc n) (x ∷ xs) = ap (λ ys. x ∷ ys) (shorter n xs)

    of_taken : (n : ℕ) → take n (r ∷ take n rs) ≡ take n (r ∷ rs)
    of_taken zero = refl
    of_taken (suc n) = ap (λ ys. r ∷ ys) (shorter n rs)

    by_case : (b : Bool) → take m (inserted a (take m rs)) ≡ take m (inserted a rs)
        → take (suc m) (cond b (a ∷ r ∷ take m rs) (r ∷ inserted a (take m rs))) ≡ take (suc m) (cond b (a ∷ r ∷ rs) (r ∷ inserted a rs))
    by_case true h = ap (λ ys. a ∷ ys) (of_taken m)
    by_case false h = ap (λ ys. r ∷ ys) h

-- ---- all the tasks that are in

-- the numbers below the room, each with what is kept there, are a set of just those that are in
holds-all : (keys : List (Option Key)) → HoldsJust (numbers_from 0 (length keys)) (key_in keys) (is_in keys) keys
holds-all keys = record {
  room = λ t h. below (length keys) t h;
  is_in = λ t. by_case t (has t (numbers_from 0 (length keys))) refl (key_at keys t) refl;
}
  where
    below : (n t : ℕ) → has t (numbers_from 0 n) ≡ true → t < n
    below n t h = let low = numbers_from-below t 0 n h in omega (arith, low)

    beyond : (ks : List (Option Key)) (t : ℕ) → has t (numbers_from 0 (length ks)) ≡ false → key_at ks t ≡ None
    beyond ks t h = by_position (nat_lt t (length ks)) refl
      where
        by_position : (b : Bool) → nat_lt t (length ks) ≡ b → key_at ks t ≡ None
        by_position true e = absurd (clash _ (numbers_from-has 0 (length ks) t (omega arith) (grind (arith, nat_tests, e))) h)
        by_position false e = get_or_past ks t None (grind (arith, nat_tests, e))

    by_case : (t : ℕ) (b : Bool) → has t (numbers_from 0 (length keys)) ≡ b → (o : Option Key) → key_at keys t ≡ o
        → key_at keys t ≡ cond (b && is_in keys t) (Some (key_in keys t)) None
    by_case t true e None k = rw k
    by_case t true e (Some j) k = rw k
    by_case t false e o k = beyond keys t e

-- a list of all that are in, as what is kept at one number changes
pub in_order-set : (keys : List (Option Key)) (t : ℕ) (o : Option Key) → t < length keys
    → in_order (set keys t o) ≡ put_back (key_in (set keys t o)) (is_in (set keys t o)) t (in_order keys)
in_order-set keys t o low =
    ap (λ n. ranked_by (key_in (set keys t o)) (is_in (set keys t o)) (numbers_from 0 n)) (length-set keys t o)
    ∙ ranking_is_refreshed (t ∷ []) (numbers_from 0 (length keys)) (key_in keys) (key_in (set keys t o)) (is_in keys) (is_in (set keys t o)) (distinct-numbers_from 0 (length keys)) agree
  where
    same : (u : ℕ) → has u (t ∷ []) ≡ false → key_at (set keys t o) u ≡ key_at keys u
    same u h = at_set keys t u o low ∙ rw (neither (u == t) false h).0

    agree : AgreeBut (t ∷ []) (numbers_from 0 (length keys)) (key_in keys) (key_in (set keys t o)) (is_in keys) (is_in (set keys t o))
    agree = record {
      inside = λ u h. numbers_from-has 0 (length keys) u (omega arith) (only u (u == t) refl h);
      tests = λ u h k. ap is_some (sym (same u k));
      keys = λ u h k m. ap (λ (x : Option Key). unwrap_or x lowest_key) (sym (same u k));
    }
      where
        only : (u : ℕ) (b : Bool) → u == t ≡ b → b || false ≡ true → u < 0 + length keys
        only u true e h = let s : u ≡ t = eqb-true u t e in omega (arith, s, low)
        only u false e h = cc

-- a list goes by its room and what is kept at each number
same-in_order : (keys keys' : List (Option Key)) → length keys' ≡ length keys → ((t : ℕ) → key_at keys' t ≡ key_at keys t) → in_order keys' ≡ in_order keys
same-in_order keys keys' room same =
    ap (λ n. ranked_by (key_in keys') (is_in keys') (numbers_from 0 n)) room
    ∙ ranked_by-same (key_in keys') (key_in keys) (is_in keys') (is_in keys) (numbers_from 0 (length keys)) (λ t h. ap is_some (same t)) (λ t h k. ap (λ (o : Option Key). unwrap_or o lowest_key) (same t))

-- one that is taken out is gone from the list
taken-in_order : (keys : List (Option Key)) (t : ℕ) → t < length keys → in_order (set keys t None) ≡ without_task t (in_order keys)
taken-in_order keys t low =
    let gone : key_at (set keys t None) t ≡ None = at_set keys t t None low ∙ rw (equal_self t) in
    in_order-set keys t None low ∙ rw gone

put-in_order : (keys : List (Option Key)) (t : ℕ) (k : Key) → t < length keys → key_at keys t ≡ None
    → in_order (set keys t (Some k)) ≡ inserted (record { key = k; task = t }) (in_order keys)
put-in_order keys t k low out =
    let here : key_at (set keys t (Some k)) t ≡ Some k = at_set keys t t (Some k) low ∙ rw (equal_self t) in
    let absent : has t (tasks_of (in_order keys)) ≡ false = has-ranked_by (key_in keys) (is_in keys) t (numbers_from 0 (length keys)) ∙ rw out (and_false (has t (numbers_from 0 (length keys)))) in
    in_order-set keys t (Some k) low ∙ rw (here, without-absent t (in_order keys) absent)

-- all of the list stand in order
all-in_order : (keys : List (Option Key)) → IsInOrder (in_order keys)
all-in_order keys = in_order-sorted (map (λ t. record { key = key_in keys t; task = t }) (filter (is_in keys) (numbers_from 0 (length keys))))

-- one of the list is within the room
pub room-in_order : (keys : List (Option Key)) (t : ℕ) → has t (tasks_of (in_order keys)) ≡ true → t < length keys
room-in_order keys t h =
    let parts = both _ _ (rw has-ranked_by at h) in
    let low = numbers_from-below t 0 (length keys) parts.0 in
    omega (arith, low)

-- where the first ones stand beside the rest, the rest in order are those that follow
rest-in_order : (top later : List Ranked) (keys rest : List (Option Key)) → length rest ≡ length keys → in_order keys ≡ top ++ later
    → ((t : ℕ) → key_at rest t ≡ cond (has t (tasks_of top)) None (key_at keys t)) → in_order rest ≡ later
rest-in_order [] later keys rest room split are = same-in_order keys rest room are ∙ split
rest-in_order (x ∷ top) later keys rest room split are =
    rest-in_order top later (set keys x.task None) rest (room ∙ sym (length-set keys x.task None)) shorter (λ t. by_case t (t == x.task) refl)
  where
    low : x.task < length keys
    low = room-in_order keys x.task (rw (split, equal_self x.task))

    shorter : in_order (set keys x.task None) ≡ top ++ later
    shorter = taken-in_order keys x.task low ∙ rw (split, equal_self x.task)

    by_case : (t : ℕ) (b : Bool) → t == x.task ≡ b → key_at rest t ≡ cond (has t (tasks_of top)) None (key_at (set keys x.task None) t)
    by_case t true e = are t ∙ rw (e, at_set keys x.task t None low) (either_way (has t (tasks_of top)))
      where
        either_way : (b : Bool) → None ≡ cond b None (cond (t == x.task) None (key_at keys t))
        either_way true = refl
        either_way false = rw e
    by_case t false e = are t ∙ rw (e, at_set keys x.task t None low) (rw e)

-- a list in which each task stands once, without one of them
pub has-without : (t u : ℕ) (rs : List Ranked) → IsDistinct (tasks_of rs) → has u (tasks_of (without_task t rs)) ≡ cond (u == t) false (has u (tasks_of rs))
has-without t u [] d = none (u == t)
  where
    none : (b : Bool) → false ≡ cond b false false
    none true = refl
    none false = refl
has-without t u (r ∷ rs) d = by_case (r.task == t) refl (u == t) refl (has-without t u rs d.1)
  where
    by_case : (a : Bool) → r.task == t ≡ a → (b : Bool) → u == t ≡ b → has u (tasks_of (without_task t rs)) ≡ cond (u == t) false (has u (tasks_of rs))
        → has u (tasks_of (cond a rs (r ∷ without_task t rs))) ≡ cond b false (u == r.task || has u (tasks_of rs))
    by_case true e true k rest = let same : u ≡ r.task = eqb-true u t k ∙ sym (eqb-true r.task t e) in rw same d.0
    by_case true e false k rest = let other : u == r.task ≡ false = rw (eqb-true r.task t e) k in rw other
    by_case false e true k rest = let other : u == r.task ≡ false = rw (eqb-true u t k) (turned t r.task ∙ e) in rw other (rest ∙ rw k)
    by_case false e false k rest = ap (λ b. u == r.task || b) (rest ∙ rw k)

has-append : (u : ℕ) (xs ys : List Ranked) → has u (tasks_of (xs ++ ys)) ≡ has u (tasks_of xs) || has u (tasks_of ys)
has-append u [] ys = refl
has-append u (x ∷ xs) ys = ap (λ b. u == x.task || b) (has-append u xs ys) ∙ grouped (u == x.task)
  where
    grouped : (b : Bool) → b || (has u (tasks_of xs) || has u (tasks_of ys)) ≡ (b || has u (tasks_of xs)) || has u (tasks_of ys)
    grouped true = refl
    grouped false = refl

-- the last of a list in which each task stands once, and the others
pub has-last : (l : Ranked) (front : List Ranked) → has l.task (tasks_of (front ++ l ∷ [])) ≡ true
has-last l front = has-append l.task front (l ∷ []) ∙ rw (equal_self l.task) (or_true (has l.task (tasks_of front)))

pub has-front : (u : ℕ) (l : Ranked) (front : List Ranked) → u == l.task ≡ false → has u (tasks_of (front ++ l ∷ [])) ≡ has u (tasks_of front)
has-front u l front other = has-append u front (l ∷ []) ∙ rw other (beside (has u (tasks_of front)))
  where
    beside : (b : Bool) → b || (false || false) ≡ b
    beside true = refl
    beside false = refl

pub last-alone : (l : Ranked) (front : List Ranked) → IsDistinct (tasks_of (front ++ l ∷ [])) → has l.task (tasks_of front) ≡ false
last-alone l [] d = refl
last-alone l (r ∷ front) d =
    let q = neither (has r.task (tasks_of front)) (r.task == l.task || false) (sym (has-append r.task front (l ∷ [])) ∙ d.0) in
    let other : l.task == r.task ≡ false = turned l.task r.task ∙ (neither (r.task == l.task) false q.1).0 in
    rw other (last-alone l front d.1)

-- each task of a list has in the set the key that it has in the list
abbrev pub AllIn : List (Option Key) → List Ranked → Type 0
AllIn keys [] = Unit {0}
AllIn keys (r ∷ rs) = (key_at keys r.task ≡ Some r.key) × AllIn keys rs

all_in-inserted : (keys : List (Option Key)) (a : Ranked) (rs : List Ranked) → key_at keys a.task ≡ Some a.key → AllIn keys rs → AllIn keys (inserted a rs)
all_in-inserted keys a [] h all = (h, tt)
all_in-inserted keys a (r ∷ rs) h all = by_case (ahead a r) (all_in-inserted keys a rs h all.1)
  where
    by_case : (b : Bool) → AllIn keys (inserted a rs) → AllIn keys (cond b (a ∷ r ∷ rs) (r ∷ inserted a rs))
    by_case true rest = (h, all)
    by_case false rest = (all.0, rest)

all_in-sorted : (keys : List (Option Key)) (rs : List Ranked) → AllIn keys rs → AllIn keys (sorted rs)
all_in-sorted keys [] all = tt
all_in-sorted keys (r ∷ rs) all = all_in-inserted keys r (sorted rs) all.0 (all_in-sorted keys rs all.1)

all_in-take : (keys : List (Option Key)) (n : ℕ) (rs : List Ranked) → AllIn keys rs → AllIn keys (take n rs)
all_in-take keys zero rs all = tt
all_in-take keys (suc n) [] all = tt
all_in-take keys (suc n) (r ∷ rs) all = (all.0, all_in-take keys n rs all.1)

all_in-last : (keys : List (Option Key)) (rs : List Ranked) (l : Ranked) → AllIn keys (rs ++ l ∷ []) → key_at keys l.task ≡ Some l.key
all_in-last keys [] l all = all.0
all_in-last keys (r ∷ rs) l all = all_in-last keys rs l all.1

all_in-set : (keys : List (Option Key)) (t : ℕ) (o : Option Key) (rs : List Ranked) → t < length keys → has t (tasks_of rs) ≡ false → AllIn keys rs → AllIn (set keys t o) rs
all_in-set keys t o [] low out all = tt
all_in-set keys t o (r ∷ rs) low out all =
    let q = neither (t == r.task) (has t (tasks_of rs)) out in
    (at_set keys t r.task o low ∙ rw (turned r.task t ∙ q.0) all.0, all_in-set keys t o rs low q.1 all.1)

all_in-order : (keys : List (Option Key)) → AllIn keys (in_order keys)
all_in-order keys = all_in-sorted keys _ (each (numbers_from 0 (length keys)))
  where
    each : (ts : List ℕ) → AllIn keys (map (λ t. record { key = key_in keys t; task = t }) (filter (is_in keys) ts))
    each [] = tt
    each (t ∷ ts) = by_case (key_at keys t) refl (each ts)
      where
        by_case : (o : Option Key) → key_at keys t ≡ o → AllIn keys (map (λ u. record { key = key_in keys u; task = u }) (filter (is_in keys) ts))
            → AllIn keys (map (λ u. record { key = key_in keys u; task = u }) (cond (is_some o) (t ∷ filter (is_in keys) ts) (filter (is_in keys) ts)))
        by_case None e rest = rest
        by_case (Some k) e rest = (e ∙ rw e refl, rest)

-- nothing is kept, and nothing comes first
size-replicate : (n : ℕ) → size (replicate n None) ≡ 0
size-replicate zero = refl
size-replicate (suc n) =
    let more : size (None ∷ replicate n None) ≡ 0 + size (replicate n None) = sum_by-cons (λ (o : Option Key). cond (is_some o) 1 0) None (replicate n None) in
    omega (arith, more, size-replicate n)

pub split-none : (most n : ℕ) → IsSplit (record { most = most; keys = replicate n None }) [] (replicate n None)
split-none most n = record {
  same_room = refl;
  top_is = sym (rw (none-ranked (numbers_from 0 (length keys)) (key_in keys) (is_in keys) keys (holds-all keys) (size-replicate n)) (taken most));
  rest_are = λ t. refl;
}
  where
    keys : List (Option Key)
    keys = replicate n None

    taken : (m : ℕ) → take {A = Ranked} m [] ≡ []
    taken zero = refl
    taken (suc m) = refl

module _ (q : Queue) (top : List Ranked) (rest : List (Option Key)) (s : IsSplit q top rest) where
  -- the rest in order are those that follow the first ones
  rest-follows : in_order rest ≡ drop q.most (in_order q.keys)
  rest-follows =
      rest-in_order top (drop q.most (in_order q.keys)) q.keys rest s.same_room (rw s.top_is (sym (take-append-drop q.most (in_order q.keys)))) s.rest_are

  pub distinct-top : IsDistinct (tasks_of top)
  distinct-top =
      let all : IsDistinct (tasks_of (in_order q.keys)) = distinct-ranked_by (key_in q.keys) (is_in q.keys) (numbers_from 0 (length q.keys)) (distinct-numbers_from 0 (length q.keys)) in
      rw s.top_is (subst IsDistinct (take-map (λ (r : Ranked). r.task) q.most (in_order q.keys)) (distinct-take q.most (tasks_of (in_order q.keys)) all))

  top-inside : (t : ℕ) → has t (tasks_of top) ≡ true → t < length q.keys
  top-inside t h =
      let there : has t (take q.most (tasks_of (in_order q.keys))) ≡ true = subst (λ ts. has t ts ≡ true) (ap tasks_of s.top_is ∙ sym (take-map (λ (r : Ranked). r.task) q.most (in_order q.keys))) h in
      room-in_order q.keys t (has-take t q.most (tasks_of (in_order q.keys)) there)

  -- a task that is not among the first ones is taken out of the rest
  pub split-rest_taken : (t : ℕ) → t < length q.keys → has t (tasks_of top) ≡ false → IsSplit (record q { keys = set q.keys t None }) top (set rest t None)
  split-rest_taken t low out = record {
    same_room = length-set rest t None ∙ s.same_room ∙ sym (length-set q.keys t None);
    top_is = s.top_is ∙ sym (rw (taken-in_order q.keys t low) (take-without-later q.most t (in_order q.keys) (rw s.top_is at out)));
    rest_are = λ u. at_set rest t u None (omega (arith, low, s.same_room)) ∙ rw (s.rest_are u, at_set q.keys t u None low) (by_case (u == t) (has u (tasks_of top)) (key_at q.keys u));
  }
    where
      by_case : (b c : Bool) (o : Option Key) → cond b None (cond c None o) ≡ cond c None (cond b None o)
      by_case true true o = refl
      by_case true false o = refl
      by_case false c o = refl

  -- what is left of the first ones, and the one that follows
  first_without : (t : ℕ) → has t (tasks_of top) ≡ true → take q.most (in_order (set q.keys t None)) ≡ without_task t top ++ take 1 (in_order rest)
  first_without t there =
      rw (taken-in_order q.keys t (top-inside t there), rest-follows)
      (take-without q.most t (in_order q.keys) (rw s.top_is at there) ∙ rw (sym s.top_is))

  -- one of the first ones is taken out, and none is left to follow
  pub split-top_taken : (t : ℕ) → has t (tasks_of top) ≡ true → size rest ≡ 0 → IsSplit (record q { keys = set q.keys t None }) (without_task t top) rest
  split-top_taken t there none = record {
    same_room = s.same_room ∙ sym (length-set q.keys t None);
    top_is = sym (first_without t there ∙ rw (none-ranked (numbers_from 0 (length rest)) (key_in rest) (is_in rest) rest (holds-all rest) none) (append-nil _));
    rest_are = λ u. none-at rest u none ∙ sym (empty u (s.rest_are u));
  }
    where
      empty : (u : ℕ) → key_at rest u ≡ cond (has u (tasks_of top)) None (key_at q.keys u) → cond (has u (tasks_of (without_task t top))) None (key_at (set q.keys t None) u) ≡ None
      empty u are = rw (has-without t u top distinct-top, at_set q.keys t u None (top-inside t there)) (by_case (u == t) (has u (tasks_of top)) (sym are ∙ none-at rest u none))
        where
          by_case : (b c : Bool) → cond c None (key_at q.keys u) ≡ None → cond (cond b false c) None (cond b None (key_at q.keys u)) ≡ None
          by_case true c h = refl
          by_case false c h = h

  -- a task of the rest is none of the first ones
  pub rest-apart : (u : ℕ) → is_in rest u ≡ true → has u (tasks_of top) ≡ false
  rest-apart u there = unless (has u (tasks_of top)) (λ h. let none : key_at rest u ≡ None = s.rest_are u ∙ rw h in clash _ there (ap is_some none))

  -- and taking one of these out of the rest changes nothing
  pub split-behind : (t : ℕ) → has t (tasks_of top) ≡ true → IsSplit q top (set rest t None)
  split-behind t there =
      let none : key_at rest t ≡ None = s.rest_are t ∙ rw there in
      subst (IsSplit q top) (sym (ap (λ (o : Option Key). set rest t o) (sym none) ∙ set-get_or rest t None)) s

  -- one of the first ones is taken out, and the first of the rest follows
  pub split-followed : (t u : ℕ) (k : Key) → has t (tasks_of top) ≡ true → IsFirst higher rest u → key_at rest u ≡ Some k
      → IsSplit (record q { keys = set q.keys t None }) (inserted (record { key = k; task = u }) (without_task t top)) (set rest u None)
  split-followed t u k there first is = subst (λ rs. IsSplit (record q { keys = set q.keys t None }) rs (set rest u None)) (sym last) at_end
    where
      next : (has u (numbers_from 0 (length rest)) ≡ true) × (in_order rest ≡ record { key = key_in rest u; task = u } ∷ ranked_by (key_in rest) (others u (is_in rest)) (numbers_from 0 (length rest)))
      next = first-ranked (numbers_from 0 (length rest)) (key_in rest) (is_in rest) rest u (distinct-numbers_from 0 (length rest)) (holds-all rest) first

      inside : u < length rest
      inside = let low = numbers_from-below u 0 (length rest) next.0 in omega (arith, low)

      by_case : (v : ℕ) (a : Bool) → v == u ≡ a → (b : Bool) → v == t ≡ b → (c : Bool) → has v (tasks_of top) ≡ c
          → cond (cond b false c || (a || false)) None (cond b None (key_at q.keys v)) ≡ cond a None (key_at rest v)
      by_case v true e true f c g = let same : u ≡ t = sym (eqb-true v u e) ∙ eqb-true v t f in absurd (clash _ (rw same there) (rest-apart u (ap is_some is)))
      by_case v true e false f true g = refl
      by_case v true e false f false g = refl
      by_case v false e true f c g = let here : has v (tasks_of top) ≡ true = rw (eqb-true v t f) there in sym (s.rest_are v ∙ rw here)
      by_case v false e false f true g = sym (s.rest_are v ∙ rw g)
      by_case v false e false f false g = sym (s.rest_are v ∙ rw g)

      at_end : IsSplit (record q { keys = set q.keys t None }) (without_task t top ++ record { key = k; task = u } ∷ []) (set rest u None)
      at_end = record {
        same_room = length-set rest u None ∙ s.same_room ∙ sym (length-set q.keys t None);
        top_is = sym (first_without t there ∙ rw (next.1, is) refl);
        rest_are = λ v. at_set rest u v None inside ∙ sym (rw (has-append v (without_task t top) (record { key = k; task = u } ∷ []), has-without t v top distinct-top, at_set q.keys t v None (top-inside t there)) (by_case v (v == u) refl (v == t) refl (has v (tasks_of top)) refl));
      }

      last : inserted (record { key = k; task = u }) (without_task t top) ≡ without_task t top ++ record { key = k; task = u } ∷ []
      last = inserted-last (record { key = k; task = u }) (without_task t top) (rw at_end.top_is (in_order-take q.most (in_order (set q.keys t None)) (all-in_order (set q.keys t None))))

  -- a task that is not in is none of the first ones
  pub absent-top : (t : ℕ) → is_in q.keys t ≡ false → has t (tasks_of top) ≡ false
  absent-top t out = unless (has t (tasks_of top)) (λ h. clash _ (top-in t h) out)
    where
      top-in : (u : ℕ) → has u (tasks_of top) ≡ true → is_in q.keys u ≡ true
      top-in u h =
          let there : has u (take q.most (tasks_of (in_order q.keys))) ≡ true = subst (λ ts. has u ts ≡ true) (ap tasks_of s.top_is ∙ sym (take-map (λ (r : Ranked). r.task) q.most (in_order q.keys))) h in
          let listed : has u (tasks_of (in_order q.keys)) ≡ true = has-take u q.most (tasks_of (in_order q.keys)) there in
          (both (has u (numbers_from 0 (length q.keys))) (is_in q.keys u) (sym (has-ranked_by (key_in q.keys) (is_in q.keys) u (numbers_from 0 (length q.keys))) ∙ listed)).1

  -- one that is in and is none of the rest is one of them
  pub in-top : (t : ℕ) → is_in q.keys t ≡ true → is_in rest t ≡ false → has t (tasks_of top) ≡ true
  in-top t there apart = by_case (has t (tasks_of top)) refl
    where
      by_case : (b : Bool) → has t (tasks_of top) ≡ b → b ≡ true
      by_case true e = refl
      by_case false e = let same : key_at rest t ≡ key_at q.keys t = s.rest_are t ∙ rw e in absurd (clash _ (ap is_some same ∙ there) apart)

  -- one more is put in
  module _ (t : ℕ) (k : Key) (low : t < length q.keys) (none : key_at q.keys t ≡ None) where
    none-top : has t (tasks_of top) ≡ false
    none-top = absent-top t (ap is_some none)

    first-with : take q.most (in_order (set q.keys t (Some k))) ≡ take q.most (inserted (record { key = k; task = t }) top)
    first-with =
        ap (take q.most) (put-in_order q.keys t k low none) ∙ sym (take-inserted q.most (record { key = k; task = t }) (in_order q.keys))
        ∙ ap (λ rs. take q.most (inserted (record { key = k; task = t }) rs)) (sym s.top_is)

    -- and there is room for it among the first ones
    pub split-put_in : length (inserted (record { key = k; task = t }) top) ≤ q.most → IsSplit (record q { keys = set q.keys t (Some k) }) (inserted (record { key = k; task = t }) top) rest
    split-put_in few = record {
      same_room = s.same_room ∙ sym (length-set q.keys t (Some k));
      top_is = sym (first-with ∙ take_all q.most (inserted (record { key = k; task = t }) top) few);
      rest_are = λ u. s.rest_are u ∙ sym (rw (has-inserted u (record { key = k; task = t }) top, at_set q.keys t u (Some k) low) (by_case u (u == t) refl));
    }
      where
        by_case : (u : ℕ) (b : Bool) → u == t ≡ b → cond (b || has u (tasks_of top)) None (cond b (Some k) (key_at q.keys u)) ≡ cond (has u (tasks_of top)) None (key_at q.keys u)
        by_case u true e = rw (eqb-true u t e, none) (sym (either_way (has t (tasks_of top))))
          where
            either_way : (b : Bool) → cond {A = Option Key} b None None ≡ None
            either_way true = refl
            either_way false = refl
        by_case u false e = refl

    -- or the last of the first ones makes room for it
    module _ (front : List Ranked) (l : Ranked) (is : inserted (record { key = k; task = t }) top ≡ front ++ l ∷ []) (full : length front ≡ q.most) where
      abbrev with-it : List Ranked
      with-it = inserted (record { key = k; task = t }) top

      all-in-with : AllIn (set q.keys t (Some k)) with-it
      all-in-with =
          let old : AllIn q.keys top = rw s.top_is (all_in-take q.keys q.most (in_order q.keys) (all_in-order q.keys)) in
          all_in-inserted (set q.keys t (Some k)) (record { key = k; task = t }) top (at_set q.keys t t (Some k) low ∙ rw (equal_self t)) (all_in-set q.keys t (Some k) top low none-top old)

      last-in : key_at (set q.keys t (Some k)) l.task ≡ Some l.key
      last-in = all_in-last (set q.keys t (Some k)) front l (subst (AllIn (set q.keys t (Some k))) is all-in-with)

      pub last-inside : l.task < length rest
      last-inside =
          let inside : l.task < length (set q.keys t (Some k)) = within (set q.keys t (Some k)) l.task l.key last-in in
          omega (arith, inside, length-set q.keys t (Some k), s.same_room)
        where
          within : (ks : List (Option Key)) (u : ℕ) (j : Key) → key_at ks u ≡ Some j → u < length ks
          within [] u j h = cc
          within (x ∷ ks) zero j h = omega arith
          within (x ∷ ks) (suc u) j h = omega (arith, within ks u j h)

      last-apart : has l.task (tasks_of front) ≡ false
      last-apart = last-alone l front (subst (λ rs. IsDistinct (tasks_of rs)) is (distinct-inserted (record { key = k; task = t }) top none-top distinct-top))

      in-front : (u : ℕ) → u == l.task ≡ false → has u (tasks_of front) ≡ u == t || has u (tasks_of top)
      in-front u other = sym (has-front u l front other) ∙ ap (λ rs. has u (tasks_of rs)) (sym is) ∙ has-inserted u (record { key = k; task = t }) top

      pub last-absent : key_at rest l.task ≡ None
      last-absent = s.rest_are l.task ∙ by_task (l.task == t) refl (has l.task (tasks_of top)) refl
        where
          all-of : has l.task (tasks_of with-it) ≡ true
          all-of = rw is (has-last l front)

          by_task : (b : Bool) → l.task == t ≡ b → (c : Bool) → has l.task (tasks_of top) ≡ c → cond c None (key_at q.keys l.task) ≡ None
          by_task b e true h = refl
          by_task true e false h = rw (eqb-true l.task t e) none
          by_task false e false h = absurd (clash _ (sym (has-inserted l.task (record { key = k; task = t }) top) ∙ all-of) (rw (e, h)))

      pub split-put_over : IsSplit (record q { keys = set q.keys t (Some k) }) front (set rest l.task (Some l.key))
      split-put_over = record {
        same_room = length-set rest l.task (Some l.key) ∙ s.same_room ∙ sym (length-set q.keys t (Some k));
        top_is = sym (first-with ∙ ap (take q.most) is ∙ subst (λ n. take n (front ++ l ∷ []) ≡ front) full (take-append_seam front (l ∷ [])));
        rest_are = λ u. at_set rest l.task u (Some l.key) last-inside ∙ by_case u (u == l.task) refl;
      }
        where
          later : (u : ℕ) (b : Bool) → u == t ≡ b → key_at rest u ≡ cond (b || has u (tasks_of top)) None (cond b (Some k) (key_at q.keys u))
          later u true e = rw (eqb-true u t e) (s.rest_are t ∙ rw (none-top, none))
          later u false e = s.rest_are u

          by_case : (u : ℕ) (b : Bool) → u == l.task ≡ b → cond b (Some l.key) (key_at rest u) ≡ cond (has u (tasks_of front)) None (key_at (set q.keys t (Some k)) u)
          by_case u true e = rw (eqb-true u l.task e, last-apart) (sym last-in)
          by_case u false e = rw (in-front u e, at_set q.keys t u (Some k) low) (later u (u == t) refl)

pub few-top : (q : Queue) (top : List Ranked) (rest : List (Option Key)) → IsSplit q top rest → length top ≤ q.most
few-top q top rest s = rw s.top_is (length-take-most q.most (in_order q.keys))
  where
    length-take-most : (n : ℕ) (rs : List Ranked) → length (take n rs) ≤ n
    length-take-most zero rs = omega arith
    length-take-most (suc n) [] = omega arith
    length-take-most (suc n) (r ∷ rs) = omega (arith, length-take-most n rs)

-- where one too many stands among the first ones, all but the last are as many as there are to be
pub over-full : (q : Queue) (top : List Ranked) (rest : List (Option Key)) → IsSplit q top rest → (a l : Ranked) (front : List Ranked)
    → inserted a top ≡ front ++ l ∷ [] → q.most < length (inserted a top) → length front ≡ q.most
over-full q top rest s a l front is over =
    let few = few-top q top rest s in
    let longer = length-inserted a top in
    let whole : length (inserted a top) ≡ length front + 1 = ap length is ∙ length-append front (l ∷ []) in
    omega arith

pub length-without_task : (t : ℕ) (rs : List Ranked) → length (without_task t rs) ≤ length rs
length-without_task t [] = omega arith
length-without_task t (r ∷ rs) = by_case (r.task == t) (length-without_task t rs)
  where
    by_case : (b : Bool) → length (without_task t rs) ≤ length rs → length (cond b rs (r ∷ without_task t rs)) ≤ length (r ∷ rs)
    by_case true h = omega arith
    by_case false h = omega (arith, h)
