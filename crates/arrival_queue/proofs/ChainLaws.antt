-- The clocks of a task from a position on, and the queues of all tasks at each task's number.
use Rattle.std.proofs.Common.{◌≡◌, ◌≢◌, ◌∙◌, ℕ, zero, suc, ◌+◌, ◌<◌, ◌≤◌, Bool, true, false, cond, List, [], ◌∷◌, map, length, get_or, set, drop, replicate, ap, arith, eqb-true, refl, subst, sym}
use Rattle.std.proofs.lemmas.List.{get_or-set_other, get_or-set_same, length-set}
use Rattle.std.specs.Prelude.{Option, None, Some, filter, ◌==◌}
use Rattle.std.proofs.Math.Seq.{drop-length}
use Rattle.arrival_queue.specs.Chains.{IsChained, IsFirst, IsNewest, IsNext, arrival_at, clocks_of, no_ends, queue_of, queues_from, waiting_of}
use Rattle.arrival_queue.specs.Waiting.{queue_at, rest_of}
use Rattle.arrival_queue.specs.declared.Arrival.{Arrival}
use Rattle.arrival_queue.specs.declared.Ends.{Ends}

-- ---- the clocks of a task

pub equal-self : (n m : ℕ) → n ≡ m → n == m ≡ true
equal-self n m e = grind (arith, e)

pub clocks-own : (t : ℕ) (a : Arrival) (ns : List Arrival) → a.task ≡ t → clocks_of t (a ∷ ns) ≡ a.clock ∷ clocks_of t ns
clocks-own t a ns e = rw (equal-self a.task t e)

pub clocks-other : (t : ℕ) (a : Arrival) (ns : List Arrival) → a.task ≢ t → clocks_of t (a ∷ ns) ≡ clocks_of t ns
clocks-other t a ns ne = by_equal (a.task == t) refl
  where
    by_equal : (b : Bool) → a.task == t ≡ b → map (λ (x : Arrival). x.clock) (cond b (a ∷ filter (λ (x : Arrival). x.task == t) ns) (filter (λ (x : Arrival). x.task == t) ns)) ≡ clocks_of t ns
    by_equal true e = absurd (ne (eqb-true a.task t e))
    by_equal false e = refl

-- from an arrival of the task on
pub from-own : (t i : ℕ) (ns : List Arrival) → i < length ns → (arrival_at ns i).task ≡ t → clocks_of t (drop i ns) ≡ (arrival_at ns i).clock ∷ clocks_of t (drop (suc i) ns)
from-own t i [] low e = absurd (omega (arith, low))
from-own t zero (a ∷ ns) low e = clocks-own t a ns e
from-own t (suc i) (a ∷ ns) low e = from-own t i ns (omega (arith, low)) e

-- from two positions on, between which no arrival is of the task
pub from-skip : (t i j : ℕ) (ns : List Arrival) → i ≤ j → j ≤ length ns → ((k : ℕ) → i ≤ k → k < j → (arrival_at ns k).task ≢ t) → clocks_of t (drop i ns) ≡ clocks_of t (drop j ns)
from-skip t zero zero ns up low none = refl
from-skip t (suc i) zero ns up low none = absurd (omega (arith, up))
from-skip t i (suc j) [] up low none = absurd (omega (arith, low))
from-skip t zero (suc j) (a ∷ ns) up low none = clocks-other t a ns (none 0 (omega arith) (omega arith)) ∙ from-skip t zero j ns (omega arith) (omega (arith, low)) (λ k from to. none (suc k) (omega arith) (omega (arith, to)))
from-skip t (suc i) (suc j) (a ∷ ns) up low none = from-skip t i j ns (omega (arith, up)) (omega (arith, low)) (λ k from to. none (suc k) (omega (arith, from)) (omega (arith, to)))

-- ---- the queues of all tasks

pub queues-length : (ns : List Arrival) (b : ℕ) (es : List Ends) → length (queues_from ns b es) ≡ length es
queues-length ns b [] = refl
queues-length ns b (e ∷ es) = ap suc (queues-length ns (suc b) es)

queues-at : (ns : List Arrival) (b t : ℕ) (es : List Ends) → t < length es → get_or (queues_from ns b es) t [] ≡ queue_of ns (b + t) (get_or es t no_ends)
queues-at ns b t [] low = absurd (omega (arith, low))
queues-at ns b zero (e ∷ es) low = ap (λ n. queue_of ns n e) (omega arith)
queues-at ns b (suc t) (e ∷ es) low = queues-at ns (suc b) t es (omega (arith, low)) ∙ ap (λ n. queue_of ns n (get_or es t no_ends)) (omega arith)

pub queue-at : (ns : List Arrival) (es : List Ends) (t : ℕ) → t < length es → queue_at (waiting_of ns es) t ≡ queue_of ns t (get_or es t no_ends)
queue-at ns es t low = queues-at ns 0 t es low ∙ ap (λ n. queue_of ns n (get_or es t no_ends)) (omega arith)

pub within : (ns : List Arrival) (es : List Ends) (qs : List (List ℕ)) (t : ℕ) → waiting_of ns es ≡ qs → t < length qs → t < length es
within ns es qs t same low = omega (arith, low, ap length same, queues-length ns 0 es)

queues-are : (ns : List Arrival) (b : ℕ) (es : List Ends) (qs : List (List ℕ)) → length qs ≡ length es → ((t : ℕ) → t < length es → get_or qs t [] ≡ queue_of ns (b + t) (get_or es t no_ends)) → queues_from ns b es ≡ qs
queues-are ns b [] [] same each = refl
queues-are ns b [] (q ∷ qs) same each = absurd (omega (arith, same))
queues-are ns b (e ∷ es) [] same each = absurd (omega (arith, same))
queues-are ns b (e ∷ es) (q ∷ qs) same each =
    let head : q ≡ queue_of ns b e = each 0 (omega arith) ∙ ap (λ n. queue_of ns n e) (omega arith) in
    let tail = queues-are ns (suc b) es qs (omega (arith, same)) (λ t low. each (suc t) (omega (arith, low)) ∙ ap (λ n. queue_of ns n (get_or es t no_ends)) (omega arith)) in
    rw (head, tail)

pub waiting-is : (ns : List Arrival) (es : List Ends) (qs : List (List ℕ)) → length qs ≡ length es → ((t : ℕ) → t < length es → get_or qs t [] ≡ queue_of ns t (get_or es t no_ends)) → waiting_of ns es ≡ qs
waiting-is ns es qs same each = queues-are ns 0 es qs same (λ t low. each t low ∙ ap (λ n. queue_of ns n (get_or es t no_ends)) (omega arith))

none-from : (b n : ℕ) → queues_from [] b (replicate n no_ends) ≡ replicate n []
none-from b zero = refl
none-from b (suc n) = ap (λ (qs : List (List ℕ)). [] ∷ qs) (none-from (suc b) n)

-- at first nothing waits
pub waiting-none : (n : ℕ) → waiting_of [] (replicate n no_ends) ≡ replicate n []
waiting-none n = none-from 0 n

-- where one task's ends change
pub waiting-set :
    (ns ms : List Arrival) (es : List Ends) (t : ℕ) (e : Ends) → t < length es
    → ((u : ℕ) → u < length es → u ≢ t → queue_of ms u (get_or es u no_ends) ≡ queue_of ns u (get_or es u no_ends))
    → waiting_of ms (set es t e) ≡ set (waiting_of ns es) t (queue_of ms t e)
waiting-set ns ms es t e within others = waiting-is ms (set es t e) (set (waiting_of ns es) t (queue_of ms t e)) same each
  where
    same : length (set (waiting_of ns es) t (queue_of ms t e)) ≡ length (set es t e)
    same = length-set (waiting_of ns es) t (queue_of ms t e) ∙ queues-length ns 0 es ∙ sym (length-set es t e)

    each : (u : ℕ) → u < length (set es t e) → get_or (set (waiting_of ns es) t (queue_of ms t e)) u [] ≡ queue_of ms u (get_or (set es t e) u no_ends)
    each u low = by_equal (u == t) refl
      where
        inside : u < length es
        inside = omega (arith, low, length-set es t e)

        by_equal : (b : Bool) → u == t ≡ b → get_or (set (waiting_of ns es) t (queue_of ms t e)) u [] ≡ queue_of ms u (get_or (set es t e) u no_ends)
        by_equal true k =
            let is : u ≡ t = eqb-true u t k in
            let low_t : t < length (waiting_of ns es) = omega (arith, within, queues-length ns 0 es) in
            rw (is, get_or-set_same (waiting_of ns es) t (queue_of ms t e) [] low_t, get_or-set_same es t e no_ends within)
        by_equal false k =
            let ne : u ≢ t = λ is. let m : u == t ≡ true = equal-self u t is in let c : true ≡ false = sym m ∙ k in cc in
            rw (get_or-set_other (waiting_of ns es) t u (queue_of ms t e) [] ne, get_or-set_other es t u e no_ends ne) (queue-at ns es u inside ∙ sym (others u inside ne))

-- ---- the first arrival that waits

module _ (ns : List Arrival) (es : List Ends) (chained : IsChained ns es) (t : ℕ) (within : t < length es) where
  pub queue-none : (get_or es t no_ends).first ≡ None → queue_of ns t (get_or es t no_ends) ≡ []
  queue-none e = rw (e, drop-length ns)

  pub position-inside : (i : ℕ) → (get_or es t no_ends).first ≡ Some i → i < length ns
  position-inside i e = (chained.first t within).inside i e

  pub queue-some : (i : ℕ) → (get_or es t no_ends).first ≡ Some i → queue_of ns t (get_or es t no_ends) ≡ (arrival_at ns i).clock ∷ clocks_of t (drop (suc i) ns)
  queue-some i e = rw e (from-own t i ns (position-inside i e) ((chained.first t within).same i e))

  next-is : (i : ℕ) → (get_or es t no_ends).first ≡ Some i → IsNext ns t i (arrival_at ns i).next
  next-is i e = subst (λ n. IsNext ns n i (arrival_at ns i).next) ((chained.first t within).same i e) (chained.nexts i (position-inside i e))

  -- the queue without its first
  pub queue-dropped : (i : ℕ) → (get_or es t no_ends).first ≡ Some i → (n : Option ℕ) → (arrival_at ns i).next ≡ n → (newest : Option ℕ) → queue_of ns t (record { first = n; newest = newest }) ≡ rest_of (queue_of ns t (get_or es t no_ends))
  queue-dropped i e None end newest = rw (queue-some i e) (sym (from-skip t (suc i) (length ns) ns (omega (arith, position-inside i e)) (omega arith) (λ k from to. (next-is i e).none end k (omega (arith, from)) to)))
  queue-dropped i e (Some j) end newest = rw (queue-some i e) (sym (from-skip t (suc i) j ns (omega (arith, (next-is i e).after j end)) (omega (arith, (next-is i e).inside j end)) (λ k from to. (next-is i e).between j end k (omega (arith, from)) to)))

  -- the ends without the first position
  abbrev pub dropped : ℕ → Ends
  dropped i = record { first = (arrival_at ns i).next; newest = (get_or es t no_ends).newest }

  pub chained-dropped : (i : ℕ) → (get_or es t no_ends).first ≡ Some i → IsChained ns (set es t (dropped i))
  chained-dropped i e = record {
    nexts = chained.nexts;
    newest = λ u low. newest u (omega (arith, low, length-set es t (dropped i))) (u == t) refl;
    first = λ u low. first u (omega (arith, low, length-set es t (dropped i))) (u == t) refl;
  }
    where
      other : (u : ℕ) → u == t ≡ false → get_or (set es t (dropped i)) u no_ends ≡ get_or es u no_ends
      other u k = get_or-set_other es t u (dropped i) no_ends (λ is. let m : u == t ≡ true = equal-self u t is in let c : true ≡ false = sym m ∙ k in cc)

      own : (u : ℕ) → u == t ≡ true → get_or (set es t (dropped i)) u no_ends ≡ dropped i
      own u k = rw (eqb-true u t k) (get_or-set_same es t (dropped i) no_ends within)

      newest : (u : ℕ) → u < length es → (b : Bool) → u == t ≡ b → IsNewest ns u (get_or (set es t (dropped i)) u no_ends).newest
      newest u low true k = rw (own u k, eqb-true u t k) (chained.newest t within)
      newest u low false k = rw (other u k) (chained.newest u low)

      first : (u : ℕ) → u < length es → (b : Bool) → u == t ≡ b → IsFirst ns u (get_or (set es t (dropped i)) u no_ends).first
      first u low true k = rw (own u k, eqb-true u t k) (record { inside = (next-is i e).inside; same = (next-is i e).same })
      first u low false k = rw (other u k) (chained.first u low)
