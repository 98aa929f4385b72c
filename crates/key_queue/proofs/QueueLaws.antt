-- What joining and leaving do to the queue.
use Rattle.std.proofs.Common.{◌≡◌, ℕ, zero, suc, ◌+◌, ◌<◌, ◌≤◌, ◌^◌, Bool, true, false, ◌||◌, ◌⊎◌, inl, inr, eqb-true, List, [], ◌∷◌, ◌++◌, length, get_or, set, refl, sym, ap, ◌∙◌, arith, length-append, length-set, get_or-set_same, get_or-set_other}
use Rattle.std.specs.Prelude.{◌==◌, All, Some}
use Rattle.std.specs.List.{AllByRecursion}
use Rattle.std.specs.List.Sorted.{IsPermutation}
use Rattle.std.specs.declared.cmp.Reverse.{Reverse}
use Rattle.std.specs.BinaryHeap.{IsHeap, lt_by_cmp}
use Rattle.std.proofs.lemmas.Bool.Decides.{nat_tests}
use Rattle.std.proofs.lemmas.List.Elements.{All-cons, All-tail}
use Rattle.std.proofs.lemmas.List.Sorted.{All-permutation, IsPermutation-map}
use Rattle.rt_rules.specs.declared.Key.{Key}
use Rattle.rt_rules.specs.KeyOrder.{higher, equal_keys}
use Rattle.rt_rules.specs.Numbers.{has, without, foremost}
use Rattle.rt_rules.proofs.PlacingLaws.{either, or_true}
use Rattle.rt_rules.proofs.MemberLaws.{equal_self, has-push, has-without, length-without, turned}
use Rattle.rt_rules.proofs.DistinctLaws.{distinct-append, distinct-without, length-few}
use Rattle.rt_rules.proofs.KeyLaws.{foremost-is}
use Rattle.key_queue.specs.declared.queue.Waiter.{Waiter}
use Rattle.sem_laws.specs.KeptKeys.{key_at, above}
use Rattle.key_queue.specs.Queue.{IsQueue, later, tasks_of, key_of, copies}
use Rattle.key_queue.proofs.Links.{other}
use Rattle.key_queue.proofs.RingLaws.{differs}
use Rattle.key_queue.proofs.Copies.{one_if, copies-permutation, has-same, copies-push, copies-without}

-- of two keys not both are higher
pub higher-strict : (a b : Key) → higher a b ≡ true → higher b a ≡ false
higher-strict a b h = grind (arith, nat_tests)

pub equal_keys-turned : (a b : Key) → equal_keys a b ≡ equal_keys b a
equal_keys-turned a b = grind (arith, nat_tests)

-- what the heap does not put below has a higher key, where the keys differ
above_rest : (x w : Reverse Waiter) → lt_by_cmp later x w ≡ false → equal_keys (key_of x) (key_of w) ≡ false → higher (key_of x) (key_of w) ≡ true
above_rest x w h e = grind (arith, nat_tests)

has-item : (ws : List (Reverse Waiter)) (k : ℕ) (d : Reverse Waiter) → k < length ws → has (get_or ws k d).0.task (tasks_of ws) ≡ true
has-item [] k d h = absurd (omega arith)
has-item (w ∷ ws) zero d h = rw (equal_self w.0.task)
has-item (w ∷ ws) (suc k) d h = ap (λ b. (get_or ws k d).0.task == w.0.task || b) (has-item ws k d (omega arith)) ∙ or_true _

-- the key of a task after another one gave its own
key_at-other : (keys : List Key) (t u : ℕ) (key : Key) → u == t ≡ false → key_at (set keys t key) u ≡ key_at keys u
key_at-other keys t u key e = get_or-set_other keys t u key _ (differs u t e)

key_at-same : (keys : List Key) (t : ℕ) (key : Key) → t < length keys → key_at (set keys t key) t ≡ key
key_at-same keys t key h = get_or-set_same keys t key _ h

-- a task of the heap is above each task of which the heap says so
above_task : (keys : List Key) (x : Reverse Waiter) (y : ℕ) (ws : List (Reverse Waiter)) → key_at keys x.0.task ≡ key_of x → AllByRecursion (λ w. lt_by_cmp later x w ≡ false) ws → All (λ w. key_at keys w.0.task ≡ key_of w) ws → equal_keys (key_at keys x.0.task) (key_at keys y) ≡ false → has y (tasks_of ws) ≡ true → above keys x.0.task y ≡ true
above_task keys x y [] own least keyed apart h = cc
above_task keys x y (w ∷ ws) own least keyed apart h = join (either (y == w.0.task) _ h) (above_task keys x y ws own least.1 (All-tail (λ w. key_at keys w.0.task ≡ key_of w) w ws keyed) apart)
  where
    join : (y == w.0.task ≡ true) ⊎ (has y (tasks_of ws) ≡ true) → (has y (tasks_of ws) ≡ true → above keys x.0.task y ≡ true) → above keys x.0.task y ≡ true
    join (inr m) rest = rest m
    join (inl m) rest =
        let s : y ≡ w.0.task = eqb-true y w.0.task m in
        let its : key_at keys y ≡ key_of w = ap (key_at keys) s ∙ keyed 0 w (omega arith) in
        let differ : equal_keys (key_of x) (key_of w) ≡ false = ap (λ k. equal_keys k (key_of w)) (sym own) ∙ ap (equal_keys (key_at keys x.0.task)) (sym its) ∙ apart in
        ap (λ k. higher k (key_at keys y)) own ∙ ap (higher (key_of x)) its ∙ above_rest x w least.0 differ

module _ (keys : List Key) (room : ℕ) (waiting : List ℕ) (items : List (Reverse Waiter)) (capacity size : ℕ) (ok : IsQueue keys room waiting items capacity size) where
  has-held : (t : ℕ) → has t (tasks_of items) ≡ has t waiting
  has-held t = has-same t (tasks_of items) waiting (ok.counted t)

  -- a task that does not wait has a position in the heap
  pub position_for : (t : ℕ) → t < room → has t waiting ≡ false → size < capacity
  position_for t below outside =
      let few : length (t ∷ waiting) ≤ room = length-few room (t ∷ waiting) (outside, ok.once) (λ u h. under u (either (u == t) (has u waiting) h)) in
      omega (arith, ok.reserved, ok.size_is)
    where
      under : (u : ℕ) → (u == t ≡ true) ⊎ (has u waiting ≡ true) → u < room
      under u (inl m) = let e : u ≡ t = eqb-true u t m in omega arith
      under u (inr m) = ok.below u m

  pub few_wait : size < 2 ^ 32
  few_wait = omega (arith, length-few room waiting ok.once ok.below, ok.size_is, ok.limit)

  stays : (t k : ℕ) (d : Reverse Waiter) → has t waiting ≡ false → k < length items → (get_or items k d).0.task == t ≡ false
  stays t k d outside h = turned _ t ∙ other t _ waiting outside (sym (has-held _) ∙ has-item items k d h)

  old_key : (t : ℕ) (key : Key) (u : ℕ) → has t waiting ≡ false → has u waiting ≡ true → key_at (set keys t key) u ≡ key_at keys u
  old_key t key u outside m = key_at-other keys t u key (turned u t ∙ other t u waiting outside m)

  pub queue-note : (t : ℕ) (key : Key) → has t waiting ≡ false → IsQueue (set keys t key) room waiting items capacity size
  queue-note t key outside = record {
    keys_length = length-set keys t key ∙ ok.keys_length;
    limit = ok.limit;
    once = ok.once;
    below = ok.below;
    reserved = ok.reserved;
    apart = λ u v hu hv e. rw (old_key t key u outside hu, old_key t key v outside hv) (ok.apart u v hu hv e);
    size_is = ok.size_is;
    counted = ok.counted;
    keyed = λ k d h. key_at-other keys t (get_or items k d).0.task key (stays t k d outside h) ∙ ok.keyed k d h;
    ordered = ok.ordered;
  }

  pub queue-push : (t : ℕ) (key : Key) (items' : List (Reverse Waiter)) (capacity' size' : ℕ) → t < room → has t waiting ≡ false → ((u : ℕ) → has u waiting ≡ true → equal_keys (key_at keys u) key ≡ false)
      → IsPermutation (record { 0 = record { band = key.band; major = key.major; minor = key.minor; task = t } } ∷ items) items' → (IsHeap later items → IsHeap later items') → capacity ≤ capacity' → size' ≡ size + 1
      → IsQueue (set keys t key) room (waiting ++ t ∷ []) items' capacity' size'
  queue-push t key items' capacity' size' below outside apart perm heap grows one_more = record {
    keys_length = length-set keys t key ∙ ok.keys_length;
    limit = ok.limit;
    once = distinct-append t waiting ok.once outside;
    below = λ u h. under u (either (u == t) (has u waiting) (sym (has-push u t waiting) ∙ h));
    reserved = omega (arith, ok.reserved);
    apart = λ u v hu hv e. differ u v e (either (u == t) (has u waiting) (sym (has-push u t waiting) ∙ hu)) (either (v == t) (has v waiting) (sym (has-push v t waiting) ∙ hv));
    size_is = omega (arith, ok.size_is, length-append waiting (t ∷ []));
    counted = λ u. copies-permutation u (t ∷ tasks_of items) (tasks_of items') (IsPermutation-map (λ (w : Reverse Waiter). w.0.task) (new ∷ items) items' perm) ∙ ap (λ n. one_if u t + n) (ok.counted u) ∙ sym (copies-push u t waiting);
    keyed = All-permutation (λ w. key_at (set keys t key) w.0.task ≡ key_of w) (new ∷ items) items' perm (All-cons (λ w. key_at (set keys t key) w.0.task ≡ key_of w) new items own (λ k d h. key_at-other keys t (get_or items k d).0.task key (stays t k d outside h) ∙ ok.keyed k d h));
    ordered = heap ok.ordered;
  }
    where
      new : Reverse Waiter
      new = record { 0 = record { band = key.band; major = key.major; minor = key.minor; task = t } }

      own : key_at (set keys t key) t ≡ key
      own = key_at-same keys t key (omega (arith, ok.keys_length))

      under : (u : ℕ) → (u == t ≡ true) ⊎ (has u waiting ≡ true) → u < room
      under u (inl m) = let e : u ≡ t = eqb-true u t m in omega arith
      under u (inr m) = ok.below u m

      new_key : (u : ℕ) → u == t ≡ true → key_at (set keys t key) u ≡ key
      new_key u m = ap (key_at (set keys t key)) (eqb-true u t m) ∙ own

      differ : (u v : ℕ) → u == v ≡ false → (u == t ≡ true) ⊎ (has u waiting ≡ true) → (v == t ≡ true) ⊎ (has v waiting ≡ true) → equal_keys (key_at (set keys t key) u) (key_at (set keys t key) v) ≡ false
      differ u v e (inl m) (inl n) = let s : u ≡ t = eqb-true u t m in let r : v ≡ t = eqb-true v t n in let q : u == v ≡ true = ap (λ i. u == i) (r ∙ sym s) ∙ equal_self u in cc
      differ u v e (inl m) (inr n) = rw (new_key u m, old_key t key v outside n, equal_keys-turned key (key_at keys v)) (apart v n)
      differ u v e (inr m) (inl n) = rw (new_key v n, old_key t key u outside m) (apart u m)
      differ u v e (inr m) (inr n) = rw (old_key t key u outside m, old_key t key v outside n) (ok.apart u v m n e)

  module _ (x : Reverse Waiter) (items' : List (Reverse Waiter)) (perm : IsPermutation items (x ∷ items')) where
    counts : (t : ℕ) → one_if t x.0.task + copies t (tasks_of items') ≡ copies t waiting
    counts t = copies-permutation t (tasks_of items) (x.0.task ∷ tasks_of items') (IsPermutation-map (λ (w : Reverse Waiter). w.0.task) items (x ∷ items') perm) ∙ ok.counted t

    pub top_waits : has x.0.task waiting ≡ true
    top_waits = has-same x.0.task waiting (x.0.task ∷ tasks_of items') (sym (counts x.0.task)) ∙ ap (λ b. b || has x.0.task (tasks_of items')) (equal_self x.0.task)

    all_keyed : All (λ w. key_at keys w.0.task ≡ key_of w) (x ∷ items')
    all_keyed = All-permutation (λ w. key_at keys w.0.task ≡ key_of w) items (x ∷ items') perm ok.keyed

    pub queue-pop : (capacity' size' : ℕ) → IsHeap later items' → capacity' ≡ capacity → size' + 1 ≡ size → IsQueue keys room (without x.0.task waiting) items' capacity' size'
    queue-pop capacity' size' heap same one_less = record {
      keys_length = ok.keys_length;
      limit = ok.limit;
      once = distinct-without x.0.task waiting ok.once;
      below = λ u h. ok.below u (has-without u x.0.task waiting h);
      reserved = omega (arith, ok.reserved);
      apart = λ u v hu hv e. ok.apart u v (has-without u x.0.task waiting hu) (has-without v x.0.task waiting hv) e;
      size_is = omega (arith, ok.size_is, length-without x.0.task waiting top_waits);
      counted = λ t. omega (arith, counts t, copies-without t x.0.task waiting top_waits);
      keyed = All-tail (λ w. key_at keys w.0.task ≡ key_of w) x items' all_keyed;
      ordered = heap;
    }

    pub foremost-top : AllByRecursion (λ w. lt_by_cmp later x w ≡ false) items' → foremost (above keys) waiting ≡ Some x.0.task
    foremost-top least = foremost-is (above keys) waiting x.0.task (λ y z. higher-strict (key_at keys y) (key_at keys z)) top_waits (λ y h. by_case y h (x.0.task == y) refl)
      where
        by_case : (y : ℕ) → has y waiting ≡ true → (b : Bool) → x.0.task == y ≡ b → b || above keys x.0.task y ≡ true
        by_case y h true e = refl
        by_case y h false e =
            let apart_from : y == x.0.task ≡ false = turned y x.0.task ∙ e in
            let there : copies y (tasks_of items') ≡ copies y waiting = omega (arith, (rw apart_from at (counts y))) in
            above_task keys x y items' (all_keyed 0 x (omega arith)) least (All-tail (λ w. key_at keys w.0.task ≡ key_of w) x items' all_keyed) (ok.apart x.0.task y top_waits h e) (has-same y (tasks_of items') waiting there ∙ h)
