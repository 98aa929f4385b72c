-- A new arrival: how it is linked to its task's newest one, and what it makes of the queues.
use Rattle.std.proofs.Common.{◌≡◌, ◌≢◌, ◌∙◌, ℕ, zero, suc, ◌+◌, ◌<◌, ◌≤◌, Bool, true, false, cond, ◌⊎◌, inl, inr, List, [], ◌∷◌, ◌++◌, map, length, get_or, set, drop, ap, arith, eqb-true, refl, subst, sym, append-nil, length-append}
use Rattle.std.proofs.lemmas.List.{drop-append-le, get_or-set_other, get_or-set_same, get_or_append_left, length-set, map-append}
use Rattle.std.proofs.lemmas.Bool.{cases_order}
use Rattle.std.proofs.lemmas.List.Elements.{filter-append}
use Rattle.std.proofs.Math.Seq.{drop-length, get_or-append_seam}
use Rattle.std.specs.Prelude.{Option, None, Some, IfSome, filter, unwrap_or, ◌==◌}
use Rattle.arrival_queue.specs.Chains.{IsChained, IsFirst, IsNewest, IsNext, NoneOf, arrival_at, clocks_of, followed, no_arrival, no_ends, queue_of, waiting_of}
use Rattle.arrival_queue.specs.Waiting.{queue_at}
use Rattle.arrival_queue.specs.declared.Arrival.{Arrival}
use Rattle.arrival_queue.specs.declared.Ends.{Ends}
use Rattle.arrival_queue.proofs.ChainLaws.{clocks-other, clocks-own, equal-self, position-inside, queue-at, waiting-set}

unequal : (n m : ℕ) → n == m ≡ false → n ≢ m
unequal n m e is = let own : n == m ≡ true = equal-self n m is in let c : true ≡ false = sym own ∙ e in cc

-- ---- the clocks do not depend on what follows

next-clocks : (t : ℕ) (a : Arrival) (n : Option ℕ) (ns : List Arrival) → clocks_of t (record a { next = n } ∷ ns) ≡ clocks_of t (a ∷ ns)
next-clocks t a n ns = by_equal (a.task == t)
  where
    by_equal : (b : Bool) → map (λ (x : Arrival). x.clock) (cond b (record a { next = n } ∷ filter (λ (x : Arrival). x.task == t) ns) (filter (λ (x : Arrival). x.task == t) ns)) ≡ map (λ (x : Arrival). x.clock) (cond b (a ∷ filter (λ (x : Arrival). x.task == t) ns) (filter (λ (x : Arrival). x.task == t) ns))
    by_equal true = refl
    by_equal false = refl

same-clocks : (t : ℕ) (a : Arrival) (ns ms : List Arrival) → clocks_of t ns ≡ clocks_of t ms → clocks_of t (a ∷ ns) ≡ clocks_of t (a ∷ ms)
same-clocks t a ns ms e = by_equal (a.task == t)
  where
    by_equal : (b : Bool) → map (λ (x : Arrival). x.clock) (cond b (a ∷ filter (λ (x : Arrival). x.task == t) ns) (filter (λ (x : Arrival). x.task == t) ns)) ≡ map (λ (x : Arrival). x.clock) (cond b (a ∷ filter (λ (x : Arrival). x.task == t) ms) (filter (λ (x : Arrival). x.task == t) ms))
    by_equal true = ap (λ (cs : List ℕ). a.clock ∷ cs) e
    by_equal false = e

set-clocks : (t k i : ℕ) (ns : List Arrival) (n : Option ℕ) → clocks_of t (drop k (set ns i (record (arrival_at ns i) { next = n }))) ≡ clocks_of t (drop k ns)
set-clocks t zero i [] n = refl
set-clocks t (suc k) i [] n = refl
set-clocks t zero zero (a ∷ ns) n = next-clocks t a n ns
set-clocks t (suc k) zero (a ∷ ns) n = refl
set-clocks t zero (suc i) (a ∷ ns) n = same-clocks t a (set ns i (record (arrival_at ns i) { next = n })) ns (set-clocks t 0 i ns n)
set-clocks t (suc k) (suc i) (a ∷ ns) n = set-clocks t k i ns n

followed-clocks : (t k : ℕ) (ns : List Arrival) (o : Option ℕ) (n : ℕ) → clocks_of t (drop k (followed ns o n)) ≡ clocks_of t (drop k ns)
followed-clocks t k ns None n = refl
followed-clocks t k ns (Some i) n = set-clocks t k i ns (Some n)

pub followed-length : (ns : List Arrival) (o : Option ℕ) (n : ℕ) → length (followed ns o n) ≡ length ns
followed-length ns None n = refl
followed-length ns (Some i) n = length-set ns i (record (arrival_at ns i) { next = Some n })

followed-own : (ns : List Arrival) (o : Option ℕ) (n i : ℕ) → o ≡ Some i → i < length ns → arrival_at (followed ns o n) i ≡ record (arrival_at ns i) { next = Some n }
followed-own ns None n i e low = cc
followed-own ns (Some j) n i e low =
    let is : j ≡ i = cc in
    rw is (get_or-set_same ns i (record (arrival_at ns i) { next = Some n }) no_arrival low)

followed-other : (ns : List Arrival) (o : Option ℕ) (n i : ℕ) → o ≢ Some i → arrival_at (followed ns o n) i ≡ arrival_at ns i
followed-other ns None n i ne = refl
followed-other ns (Some j) n i ne = get_or-set_other ns j i (record (arrival_at ns j) { next = Some n }) no_arrival (λ is. ne (ap (λ (k : ℕ). Some k) (sym is)))

added-clocks : (t k : ℕ) (ns : List Arrival) (a : Arrival) → k ≤ length ns → clocks_of t (drop k (ns ++ a ∷ [])) ≡ clocks_of t (drop k ns) ++ clocks_of t (a ∷ [])
added-clocks t k ns a low =
    let parts : drop k (ns ++ a ∷ []) ≡ drop k ns ++ a ∷ [] = drop-append-le k ns (a ∷ []) low in
    let kept = filter-append (λ (x : Arrival). x.task == t) (drop k ns) (a ∷ []) in
    ap (clocks_of t) parts ∙ ap (map (λ (x : Arrival). x.clock)) kept ∙ map-append (λ (x : Arrival). x.clock) (filter (λ (x : Arrival). x.task == t) (drop k ns)) (filter (λ (x : Arrival). x.task == t) (a ∷ []))

is-some : (o : Option ℕ) (i : ℕ) → (o ≡ Some i) ⊎ (o ≢ Some i)
is-some None i = inr (λ e. cc)
is-some (Some j) i = by_equal (j == i) refl
  where
    by_equal : (b : Bool) → j == i ≡ b → (◌≡◌ {A = Option ℕ} (Some j) (Some i)) ⊎ (◌≢◌ {A = Option ℕ} (Some j) (Some i))
    by_equal true e = inl (ap (λ (k : ℕ). Some k) (eqb-true j i e))
    by_equal false e = inr (λ is. let same : j ≡ i = cc in unequal j i e same)

module _ (ns : List Arrival) (es : List Ends) (chained : IsChained ns es) (t : ℕ) (within : t < length es) (clock : ℕ) where
  abbrev ends : Ends
  ends = get_or es t no_ends

  abbrev new : Arrival
  new = record { task = t; clock = clock; next = None }

  abbrev linked : List Arrival
  linked = followed ns ends.newest (length ns)

  abbrev pub pushed : List Arrival
  pushed = linked ++ new ∷ []

  abbrev pub pushed_ends : Ends
  pushed_ends = record { first = Some (unwrap_or ends.first (length ns)); newest = Some (length ns) }

  pub pushed-length : length pushed ≡ length ns + 1
  pushed-length = omega (arith, length-append linked (new ∷ []), followed-length ns ends.newest (length ns))

  pub newest-inside : IfSome ends.newest (λ i. i < length ns)
  newest-inside = by_newest ends.newest refl
    where
      by_newest : (o : Option ℕ) → ends.newest ≡ o → IfSome o (λ i. i < length ns)
      by_newest None e = tt
      by_newest (Some i) e = (chained.newest t within).inside i e

  -- ---- the arrivals after the push

  newest : IsNewest ns t ends.newest
  newest = chained.newest t within

  old : (i : ℕ) → i < length ns → arrival_at pushed i ≡ arrival_at linked i
  old i low = get_or_append_left linked (new ∷ []) no_arrival i (omega (arith, low, followed-length ns ends.newest (length ns)))

  own : (i : ℕ) → ends.newest ≡ Some i → arrival_at pushed i ≡ record (arrival_at ns i) { next = Some (length ns) }
  own i e = old i (newest.inside i e) ∙ followed-own ns ends.newest (length ns) i e (newest.inside i e)

  other : (i : ℕ) → i < length ns → ends.newest ≢ Some i → arrival_at pushed i ≡ arrival_at ns i
  other i low ne = old i low ∙ followed-other ns ends.newest (length ns) i ne

  task-old : (i : ℕ) → i < length ns → (arrival_at pushed i).task ≡ (arrival_at ns i).task
  task-old i low = by_newest (is-some ends.newest i)
    where
      by_newest : (ends.newest ≡ Some i) ⊎ (ends.newest ≢ Some i) → (arrival_at pushed i).task ≡ (arrival_at ns i).task
      by_newest (inl e) = ap (λ (x : Arrival). x.task) (own i e)
      by_newest (inr ne) = ap (λ (x : Arrival). x.task) (other i low ne)

  at-end : (i : ℕ) → i ≡ length ns → arrival_at pushed i ≡ new
  at-end i e = ap (arrival_at pushed) (e ∙ sym (followed-length ns ends.newest (length ns))) ∙ get_or-append_seam linked new [] no_arrival

  none-old : (u i j : ℕ) → j ≤ length ns → NoneOf u ns i j → NoneOf u pushed i j
  none-old u i j low none k from to is = none k from to (sym (task-old k (omega (arith, low, to))) ∙ is)

  none-grown : (u i : ℕ) → t ≢ u → NoneOf u ns i (length ns) → NoneOf u pushed i (length pushed)
  none-grown u i ne none k from to is = by_equal (k == length ns) refl
    where
      by_equal : (b : Bool) → k == length ns ≡ b → ⊥
      by_equal true e = ne (ap (λ (x : Arrival). x.task) (sym (at-end k (eqb-true k (length ns) e))) ∙ is)
      by_equal false e = let low : k < length ns = omega (arith, to, pushed-length, unequal k (length ns) e) in none k from low (sym (task-old k low) ∙ is)

  grown : (i : ℕ) → i < length ns → i < length pushed
  grown i low = omega (arith, low, pushed-length)

  next-old : (u i : ℕ) (n : Option ℕ) → IsNext ns u i n → (n ≡ None → t ≢ u) → IsNext pushed u i n
  next-old u i n k fresh = record {
    none = λ e. none-grown u i (fresh e) (k.none e);
    after = k.after;
    inside = λ j e. grown j (k.inside j e);
    same = λ j e. task-old j (k.inside j e) ∙ k.same j e;
    between = λ j e. none-old u i j (omega (arith, k.inside j e)) (k.between j e);
  }

  next-new : (i : ℕ) → ends.newest ≡ Some i → IsNext pushed (arrival_at ns i).task i (Some (length ns))
  next-new i e = record {
    none = λ k. cc;
    after = λ j k. let is : length ns ≡ j = cc in omega (arith, is, newest.inside i e);
    inside = λ j k. let is : length ns ≡ j = cc in omega (arith, is, pushed-length);
    same = λ j k. let is : length ns ≡ j = cc in ap (λ (x : Arrival). x.task) (at-end j (sym is)) ∙ sym (newest.same i e);
    between = λ j k. let is : length ns ≡ j = cc in
        let none : NoneOf (arrival_at ns i).task ns i (length ns) = λ m from to same. newest.last i e m from to (same ∙ newest.same i e) in
        none-old (arrival_at ns i).task i j (omega (arith, is)) (subst (λ m. NoneOf (arrival_at ns i).task ns i m) is none);
  }

  -- an arrival without a next one that is not the newest is of another task
  fresh : (i : ℕ) → i < length ns → ends.newest ≢ Some i → (arrival_at ns i).next ≡ None → t ≢ (arrival_at ns i).task
  fresh i low ne end is = by_newest ends.newest refl
    where
      by_newest : (o : Option ℕ) → ends.newest ≡ o → ⊥
      by_newest None e = newest.none e i low (sym is)
      by_newest (Some j) e = by_position (cases_order i j)
        where
          by_position : (i ≡ j) ⊎ ((i < j) ⊎ (j < i)) → ⊥
          by_position (inl at) = ne (e ∙ ap (λ (k : ℕ). Some k) (sym at))
          by_position (inr (inl before)) = (chained.nexts i low).none end j before (newest.inside j e) (newest.same j e ∙ is)
          by_position (inr (inr behind)) = newest.last j e i behind low (sym is)

  nexts : (i : ℕ) → i < length pushed → IsNext pushed (arrival_at pushed i).task i (arrival_at pushed i).next
  nexts i low = by_equal (i == length ns) refl
    where
      by_newest : i < length ns → (ends.newest ≡ Some i) ⊎ (ends.newest ≢ Some i) → IsNext pushed (arrival_at pushed i).task i (arrival_at pushed i).next
      by_newest low_i (inl e) = subst (λ (x : Arrival). IsNext pushed x.task i x.next) (sym (own i e)) (next-new i e)
      by_newest low_i (inr ne) = subst (λ (x : Arrival). IsNext pushed x.task i x.next) (sym (other i low_i ne)) (next-old (arrival_at ns i).task i (arrival_at ns i).next (chained.nexts i low_i) (fresh i low_i ne))

      last : i ≡ length ns → IsNext pushed t i None
      last e = record {
        none = λ k j from to. absurd (omega (arith, from, to, e, pushed-length));
        after = λ j k. cc;
        inside = λ j k. cc;
        same = λ j k. cc;
        between = λ j k. cc;
      }

      by_equal : (b : Bool) → i == length ns ≡ b → IsNext pushed (arrival_at pushed i).task i (arrival_at pushed i).next
      by_equal true e = let is : i ≡ length ns = eqb-true i (length ns) e in subst (λ (x : Arrival). IsNext pushed x.task i x.next) (sym (at-end i is)) (last is)
      by_equal false e = let low_i : i < length ns = omega (arith, low, pushed-length, unequal i (length ns) e) in by_newest low_i (is-some ends.newest i)

  newest-old : (u : ℕ) (o : Option ℕ) → t ≢ u → IsNewest ns u o → IsNewest pushed u o
  newest-old u o ne k = record {
    none = none;
    inside = λ j e. grown j (k.inside j e);
    same = λ j e. task-old j (k.inside j e) ∙ k.same j e;
    last = λ j e. none-grown u j ne (k.last j e);
  }
    where
      none : o ≡ None → (i : ℕ) → i < length pushed → (arrival_at pushed i).task ≢ u
      none e i low is = by_equal (i == length ns) refl
        where
          by_equal : (b : Bool) → i == length ns ≡ b → ⊥
          by_equal true m = ne (ap (λ (x : Arrival). x.task) (sym (at-end i (eqb-true i (length ns) m))) ∙ is)
          by_equal false m = let low_i : i < length ns = omega (arith, low, pushed-length, unequal i (length ns) m) in k.none e i low_i (sym (task-old i low_i) ∙ is)

  newest-own : IsNewest pushed t (Some (length ns))
  newest-own = record {
    none = λ e. cc;
    inside = λ j e. let is : length ns ≡ j = cc in omega (arith, is, pushed-length);
    same = λ j e. let is : length ns ≡ j = cc in ap (λ (x : Arrival). x.task) (at-end j (sym is));
    last = λ j e i from to. let is : length ns ≡ j = cc in absurd (omega (arith, is, from, to, pushed-length));
  }

  first-own : (o : Option ℕ) → IsFirst ns t o → IsFirst pushed t (Some (unwrap_or o (length ns)))
  first-own None k = record {
    inside = λ j e. let is : length ns ≡ j = cc in omega (arith, is, pushed-length);
    same = λ j e. let is : length ns ≡ j = cc in ap (λ (x : Arrival). x.task) (at-end j (sym is));
  }
  first-own (Some i) k = record {
    inside = λ j e. grown j (k.inside j e);
    same = λ j e. task-old j (k.inside j e) ∙ k.same j e;
  }

  pub chained-pushed : IsChained pushed (set es t pushed_ends)
  chained-pushed = record {
    nexts = nexts;
    newest = λ u low. newest_of u (omega (arith, low, length-set es t pushed_ends)) (u == t) refl;
    first = λ u low. first_of u (omega (arith, low, length-set es t pushed_ends)) (u == t) refl;
  }
    where
      kept : (u : ℕ) → u == t ≡ false → get_or (set es t pushed_ends) u no_ends ≡ get_or es u no_ends
      kept u e = get_or-set_other es t u pushed_ends no_ends (unequal u t e)

      changed : (u : ℕ) → u == t ≡ true → get_or (set es t pushed_ends) u no_ends ≡ pushed_ends
      changed u e = rw (eqb-true u t e) (get_or-set_same es t pushed_ends no_ends within)

      newest_of : (u : ℕ) → u < length es → (b : Bool) → u == t ≡ b → IsNewest pushed u (get_or (set es t pushed_ends) u no_ends).newest
      newest_of u low true e = rw (changed u e, eqb-true u t e) newest-own
      newest_of u low false e = rw (kept u e) (newest-old u (get_or es u no_ends).newest (λ is. unequal u t e (sym is)) (chained.newest u low))

      first_of : (u : ℕ) → u < length es → (b : Bool) → u == t ≡ b → IsFirst pushed u (get_or (set es t pushed_ends) u no_ends).first
      first_of u low true e = rw (changed u e, eqb-true u t e) (first-own ends.first (chained.first t within))
      first_of u low false e = rw (kept u e) (record {
        inside = λ j m. grown j ((chained.first u low).inside j m);
        same = λ j m. task-old j ((chained.first u low).inside j m) ∙ (chained.first u low).same j m;
      })

  -- ---- the queues after the push

  own-queue : (o : Option ℕ) → ends.first ≡ o → queue_of pushed t (record { first = Some (unwrap_or o (length ns)); newest = Some (length ns) }) ≡ queue_of ns t (record { first = o; newest = ends.newest }) ++ clock ∷ []
  own-queue o e =
      let low : unwrap_or o (length ns) ≤ length linked = inside o e in
      added-clocks t (unwrap_or o (length ns)) linked new low
      ∙ ap (λ (cs : List ℕ). cs ++ clocks_of t (new ∷ [])) (followed-clocks t (unwrap_or o (length ns)) ns ends.newest (length ns))
      ∙ ap (λ (cs : List ℕ). clocks_of t (drop (unwrap_or o (length ns)) ns) ++ cs) (clocks-own t new [] refl)
    where
      inside : (x : Option ℕ) → ends.first ≡ x → unwrap_or x (length ns) ≤ length linked
      inside None m = omega (arith, followed-length ns ends.newest (length ns))
      inside (Some i) m = omega (arith, position-inside ns es chained t within i m, followed-length ns ends.newest (length ns))

  other-queue : (u : ℕ) → u < length es → u ≢ t → queue_of pushed u (get_or es u no_ends) ≡ queue_of ns u (get_or es u no_ends)
  other-queue u low ne = by_first (get_or es u no_ends).first refl
    where
      by_first : (o : Option ℕ) → (get_or es u no_ends).first ≡ o → clocks_of u (drop (unwrap_or o (length pushed)) pushed) ≡ clocks_of u (drop (unwrap_or o (length ns)) ns)
      by_first None e = rw (drop-length pushed, drop-length ns)
      by_first (Some i) e =
          let inside : i ≤ length linked = omega (arith, position-inside ns es chained u low i e, followed-length ns ends.newest (length ns)) in
          added-clocks u i linked new inside
          ∙ ap (λ (cs : List ℕ). cs ++ clocks_of u (new ∷ [])) (followed-clocks u i ns ends.newest (length ns))
          ∙ ap (λ (cs : List ℕ). clocks_of u (drop i ns) ++ cs) (clocks-other u new [] (λ is. ne (sym is)))
          ∙ append-nil (clocks_of u (drop i ns))

  pub waiting-pushed : waiting_of pushed (set es t pushed_ends) ≡ set (waiting_of ns es) t (queue_at (waiting_of ns es) t ++ clock ∷ [])
  waiting-pushed = waiting-set ns pushed es t pushed_ends within other-queue ∙ ap (λ q. set (waiting_of ns es) t q) (own-queue ends.first refl ∙ ap (λ q. q ++ clock ∷ []) (sym (queue-at ns es t within)))
