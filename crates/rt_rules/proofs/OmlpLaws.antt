-- OMLP: who waits, stands in one of the two lists and holds after an act; the FIFO list has at most m members, and is full while the priority queue has any.
use Rattle.std.proofs.Common.{◌≡◌, ℕ, ◌≤◌, Bool, true, false, cond, ◌⊎◌, inl, inr, List, [], ◌∷◌, ◌++◌, length, refl, arith}
use Rattle.std.specs.Prelude.{Option, None, Some, nat_lt, is_none, if◌then◌else◌}
use Rattle.std.proofs.lemmas.Bool.Decides.{nat_tests}
use Rattle.rt_rules.specs.Distinct.{IsDistinct}
use Rattle.rt_rules.specs.Numbers.{has, is, without, first, rest, foremost}
use Rattle.rt_rules.specs.Omlp.{OmlpState, omlp_after, handed_over}
use Rattle.rt_rules.specs.SemState.{SemAct, Asks, Frees, Neither}
use Rattle.rt_rules.proofs.BoolLaws.{clash, unless, or_true}
use Rattle.rt_rules.proofs.MemberLaws.{is_one, has-append, has-appended, has-one, has-rest, has-without, find-some, first-append, length-one_more}
use Rattle.rt_rules.proofs.DistinctLaws.{distinct-append, distinct-without, distinct-rest, without-gone}
use Rattle.rt_rules.proofs.KeyLaws.{IsOrder, foremost-none, foremost-some}
use Rattle.rt_rules.proofs.SemActLaws.{AsksSome, FreesSome, asks-some, frees-some}

-- ---- who waits

-- who waits: all but the first of the FIFO list
abbrev waiting_in : OmlpState → List ℕ
waiting_in l = rest l.fifo ++ l.queue

waiting-handed : (t : ℕ) (o : Option ℕ) (f q : List ℕ) → ((v : ℕ) → o ≡ Some v → has v q ≡ true) → has t (waiting_in (handed_over o (record { fifo = rest f; queue = q }))) ≡ true → has t (rest f ++ q) ≡ true
waiting-handed t None f q there h = join (has-appended t (rest (rest f)) q h)
  where
    join : (has t (rest (rest f)) ≡ true) ⊎ (has t q ≡ true) → has t (rest f ++ q) ≡ true
    join (inl m) = rw (has-append, has-rest t (rest f) m)
    join (inr m) = rw (has-append, m) (or_true (has t (rest f)))
waiting-handed t (Some v) f q there h = join (has-appended t (rest (rest f ++ v ∷ [])) (without v q) h)
  where
    back : (xs : List ℕ) → has t (rest (xs ++ v ∷ [])) ≡ true → (has t xs ≡ true) ⊎ (t ≡ v)
    back [] k = cc
    back (x ∷ xs) k = last (has-appended t xs (v ∷ []) k)
      where
        last : (has t xs ≡ true) ⊎ (has t (v ∷ []) ≡ true) → (has t (x ∷ xs) ≡ true) ⊎ (t ≡ v)
        last (inl m) = inl (rw m (or_true _))
        last (inr m) = inr (has-one t v m)

    of_back : (has t (rest f) ≡ true) ⊎ (t ≡ v) → has t (rest f ++ q) ≡ true
    of_back (inl m) = rw (has-append, m)
    of_back (inr m) = rw (has-append, m, there v refl) (or_true (has v (rest f)))

    join : (has t (rest (rest f ++ v ∷ [])) ≡ true) ⊎ (has t (without v q) ≡ true) → has t (rest f ++ q) ≡ true
    join (inl m) = of_back (back (rest f) m)
    join (inr m) = rw (has-append, has-without t v q m) (or_true (has t (rest f)))

-- who waits did before, or asks and somebody holds
pub omlp-waits : (m : ℕ) (above : ℕ → ℕ → Bool) (t : ℕ) (x : SemAct) (l : OmlpState) → 1 ≤ m → has t (waiting_in (omlp_after m above x l)) ≡ true → (has t (waiting_in l) ≡ true) ⊎ AsksSome t x × (is_none (first l.fifo) ≡ false)
omlp-waits m above t (Asks u s) l room h = by_room (nat_lt (length l.fifo) m) refl h
  where
    short : (f : List ℕ) → has t (rest (f ++ u ∷ []) ++ l.queue) ≡ true → (has t (rest f ++ l.queue) ≡ true) ⊎ AsksSome t (Asks u s) × (is_none (first f) ≡ false)
    short [] k = inl k
    short (y ∷ f) k = join (has-appended t (f ++ u ∷ []) l.queue k)
      where
        last : (has t f ≡ true) ⊎ (has t (u ∷ []) ≡ true) → (has t (f ++ l.queue) ≡ true) ⊎ AsksSome t (Asks u s) × (false ≡ false)
        last (inl n) = inl (rw (has-append, n))
        last (inr n) = inr (asks-some t u s (has-one t u n), refl)

        join : (has t (f ++ u ∷ []) ≡ true) ⊎ (has t l.queue ≡ true) → (has t (f ++ l.queue) ≡ true) ⊎ AsksSome t (Asks u s) × (false ≡ false)
        join (inl n) = last (has-appended t f (u ∷ []) n)
        join (inr n) = inl (rw (has-append, n) (or_true (has t f)))

    full : (f : List ℕ) → nat_lt (length f) m ≡ false → has t (rest f ++ (l.queue ++ u ∷ [])) ≡ true → (has t (rest f ++ l.queue) ≡ true) ⊎ AsksSome t (Asks u s) × (is_none (first f) ≡ false)
    full [] low k = absurd (grind (arith, nat_tests, low, room))
    full (y ∷ f) low k = join (has-appended t f (l.queue ++ u ∷ []) k)
      where
        last : (has t l.queue ≡ true) ⊎ (has t (u ∷ []) ≡ true) → (has t (f ++ l.queue) ≡ true) ⊎ AsksSome t (Asks u s) × (false ≡ false)
        last (inl n) = inl (rw (has-append, n) (or_true (has t f)))
        last (inr n) = inr (asks-some t u s (has-one t u n), refl)

        join : (has t f ≡ true) ⊎ (has t (l.queue ++ u ∷ []) ≡ true) → (has t (f ++ l.queue) ≡ true) ⊎ AsksSome t (Asks u s) × (false ≡ false)
        join (inl n) = inl (rw (has-append, n))
        join (inr n) = last (has-appended t l.queue (u ∷ []) n)

    by_room : (b : Bool) → nat_lt (length l.fifo) m ≡ b → has t (waiting_in (cond b (record l { fifo = l.fifo ++ u ∷ [] }) (record l { queue = l.queue ++ u ∷ [] }))) ≡ true → (has t (rest l.fifo ++ l.queue) ≡ true) ⊎ AsksSome t (Asks u s) × (is_none (first l.fifo) ≡ false)
    by_room true low k = short l.fifo k
    by_room false low k = full l.fifo low k
omlp-waits m above t (Frees u s) l room h = inl (waiting-handed t (foremost above l.queue) l.fifo l.queue (λ v e. (find-some _ l.queue v e).0) h)
omlp-waits m above t Neither l room h = inl h

-- ---- who stands in one of the two lists

-- who stands in one of the two lists
abbrev pub members : OmlpState → List ℕ
members l = l.fifo ++ l.queue

members-handed : (t : ℕ) (o : Option ℕ) (f q : List ℕ) → ((v : ℕ) → o ≡ Some v → has v q ≡ true) → has t (members (handed_over o (record { fifo = f; queue = q }))) ≡ true → has t (f ++ q) ≡ true
members-handed t None f q there h = h
members-handed t (Some v) f q there h = join (has-appended t (f ++ v ∷ []) (without v q) h)
  where
    of_fifo : (has t f ≡ true) ⊎ (has t (v ∷ []) ≡ true) → has t (f ++ q) ≡ true
    of_fifo (inl m) = rw (has-append, m)
    of_fifo (inr m) = rw (has-append, has-one t v m, there v refl) (or_true (has v f))

    join : (has t (f ++ v ∷ []) ≡ true) ⊎ (has t (without v q) ≡ true) → has t (f ++ q) ≡ true
    join (inl m) = of_fifo (has-appended t f (v ∷ []) m)
    join (inr m) = rw (has-append, has-without t v q m) (or_true (has t f))

-- who stands there did before, or asks
pub omlp-stands : (m : ℕ) (above : ℕ → ℕ → Bool) (t : ℕ) (x : SemAct) (l : OmlpState) → has t (members (omlp_after m above x l)) ≡ true → (has t (members l) ≡ true) ⊎ AsksSome t x
omlp-stands m above t (Asks u s) l h = by_room (nat_lt (length l.fifo) m) h
  where
    asker : has t (u ∷ []) ≡ true → (has t (l.fifo ++ l.queue) ≡ true) ⊎ AsksSome t (Asks u s)
    asker k = inr (asks-some t u s (has-one t u k))

    of_fifo : has t l.fifo ≡ true → (has t (l.fifo ++ l.queue) ≡ true) ⊎ AsksSome t (Asks u s)
    of_fifo k = inl (rw (has-append, k))

    of_queue : has t l.queue ≡ true → (has t (l.fifo ++ l.queue) ≡ true) ⊎ AsksSome t (Asks u s)
    of_queue k = inl (rw (has-append, k) (or_true (has t l.fifo)))

    of_either : {A B : Type 0} → (A → (has t (l.fifo ++ l.queue) ≡ true) ⊎ AsksSome t (Asks u s)) → (B → (has t (l.fifo ++ l.queue) ≡ true) ⊎ AsksSome t (Asks u s)) → A ⊎ B → (has t (l.fifo ++ l.queue) ≡ true) ⊎ AsksSome t (Asks u s)
    of_either f k (inl n) = f n
    of_either f k (inr n) = k n

    by_room : (b : Bool) → has t (members (cond b (record l { fifo = l.fifo ++ u ∷ [] }) (record l { queue = l.queue ++ u ∷ [] }))) ≡ true → (has t (l.fifo ++ l.queue) ≡ true) ⊎ AsksSome t (Asks u s)
    by_room true k = of_either (λ n. of_either of_fifo asker (has-appended t l.fifo (u ∷ []) n)) of_queue (has-appended t (l.fifo ++ u ∷ []) l.queue k)
    by_room false k = of_either of_fifo (λ n. of_either of_queue asker (has-appended t l.queue (u ∷ []) n)) (has-appended t l.fifo (l.queue ++ u ∷ []) k)
omlp-stands m above t (Frees u s) l h = inl (whole (has-appended t (rest l.fifo) l.queue (members-handed t (foremost above l.queue) (rest l.fifo) l.queue (λ v e. (find-some _ l.queue v e).0) h)))
  where
    whole : (has t (rest l.fifo) ≡ true) ⊎ (has t l.queue ≡ true) → has t (l.fifo ++ l.queue) ≡ true
    whole (inl n) = rw (has-append, has-rest t l.fifo n)
    whole (inr n) = rw (has-append, n) (or_true (has t l.fifo))
omlp-stands m above t Neither l h = inl h

-- who holds goes on until it frees
pub omlp-holds : (m : ℕ) (above : ℕ → ℕ → Bool) (t : ℕ) (x : SemAct) (l : OmlpState) → ((u s : ℕ) → x ≡ Frees u s → is u (first l.fifo) ≡ true) → is t (first l.fifo) ≡ true → (is t (first (omlp_after m above x l).fifo) ≡ true) ⊎ FreesSome t x
omlp-holds m above t (Asks u s) l frees h = inl (by_room (nat_lt (length l.fifo) m))
  where
    by_room : (b : Bool) → is t (first (cond b (record l { fifo = l.fifo ++ u ∷ [] }) (record l { queue = l.queue ++ u ∷ [] })).fifo) ≡ true
    by_room true = first-append t l.fifo (u ∷ []) h
    by_room false = h
omlp-holds m above t (Frees u s) l frees h = inr (frees-some t u s (is_one t u (first l.fifo) h (frees u s refl)))
omlp-holds m above t Neither l frees h = inl h

-- ---- the two lists

-- nobody stands twice, the FIFO list has at most m members, and m while the priority queue has any
pub record IsQueued (m : ℕ) (l : OmlpState) : Type 0 where
  pub fifo_once : IsDistinct l.fifo
  pub queue_once : IsDistinct l.queue
  pub apart : (t : ℕ) → has t l.fifo ≡ true → has t l.queue ≡ false
  pub fits : length l.fifo ≤ m
  pub full : (t : ℕ) → has t l.queue ≡ true → length l.fifo ≡ m

queued-handed : (m : ℕ) (o : Option ℕ) (l : OmlpState) → 1 ≤ m → (o ≡ None → l.queue ≡ []) → ((v : ℕ) → o ≡ Some v → has v l.queue ≡ true) → IsQueued m l → IsQueued m (handed_over o (record l { fifo = rest l.fifo }))
queued-handed m None l room none some k = record {
  fifo_once = distinct-rest l.fifo k.fifo_once;
  queue_once = k.queue_once;
  apart = λ t h. k.apart t (has-rest t l.fifo h);
  fits = shorter l.fifo k.fits;
  full = λ t h. absurd (clash _ h (rw (none refl)));
}
  where
    shorter : (xs : List ℕ) → length xs ≤ m → length (rest xs) ≤ m
    shorter [] h = h
    shorter (x ∷ xs) h = omega arith
queued-handed m (Some v) l room none some k = record {
  fifo_once = distinct-append v (rest l.fifo) (distinct-rest l.fifo k.fifo_once) (unless _ (λ h. clash _ there (k.apart v (has-rest v l.fifo h))));
  queue_once = distinct-without v l.queue k.queue_once;
  apart = λ t h. unless _ (λ n. split t (has-appended t (rest l.fifo) (v ∷ []) h) n);
  fits = omega (arith, same_length l.fifo (k.full v there), k.full v there);
  full = λ t h. same_length l.fifo (k.full v there);
}
  where
    there : has v l.queue ≡ true
    there = some v refl

    split : (t : ℕ) → (has t (rest l.fifo) ≡ true) ⊎ (has t (v ∷ []) ≡ true) → has t (without v l.queue) ≡ true → ⊥
    split t (inl n) q = clash _ (has-without t v l.queue q) (k.apart t (has-rest t l.fifo n))
    split t (inr n) q = let gone : has t (without v l.queue) ≡ false = rw (has-one t v n) (without-gone v l.queue k.queue_once) in clash _ q gone

    same_length : (xs : List ℕ) → length xs ≡ m → length (rest xs ++ v ∷ []) ≡ m
    same_length [] h = absurd (omega arith)
    same_length (x ∷ xs) h = omega (arith, length-one_more xs v)

queued-asks : (m t : ℕ) (l : OmlpState) → has t l.fifo ≡ false → has t l.queue ≡ false → IsQueued m l → (b : Bool) → nat_lt (length l.fifo) m ≡ b → IsQueued m (if b then record l { fifo = l.fifo ++ t ∷ [] } else record l { queue = l.queue ++ t ∷ [] })
queued-asks m t l nf nq k true low = record {
  fifo_once = distinct-append t l.fifo k.fifo_once nf;
  queue_once = k.queue_once;
  apart = λ u h. split u (has-appended u l.fifo (t ∷ []) h);
  fits = grind (arith, nat_tests, length-one_more l.fifo t, low);
  full = λ u h. let e : length l.fifo ≡ m = k.full u h in absurd (grind (arith, nat_tests, low, e));
}
  where
    split : (u : ℕ) → (has u l.fifo ≡ true) ⊎ (has u (t ∷ []) ≡ true) → has u l.queue ≡ false
    split u (inl n) = k.apart u n
    split u (inr n) = rw (has-one u t n) nq
queued-asks m t l nf nq k false low = record {
  fifo_once = k.fifo_once;
  queue_once = distinct-append t l.queue k.queue_once nq;
  apart = λ u h. unless _ (λ n. split u h (has-appended u l.queue (t ∷ []) n));
  fits = k.fits;
  full = λ u h. let f : length l.fifo ≤ m = k.fits in grind (arith, nat_tests, low, f);
}
  where
    split : (u : ℕ) → has u l.fifo ≡ true → (has u l.queue ≡ true) ⊎ (has u (t ∷ []) ≡ true) → ⊥
    split u h (inl n) = clash _ n (k.apart u h)
    split u h (inr n) = let m : has u l.fifo ≡ false = rw (has-one u t n) nf in clash _ h m

-- an act keeps that, where whoever asks stands in neither list
pub queued-after : (m : ℕ) (before : ℕ → ℕ → Bool) (x : SemAct) (l : OmlpState) → 1 ≤ m → IsOrder before → ((t s : ℕ) → x ≡ Asks t s → (has t l.fifo ≡ false) × (has t l.queue ≡ false)) → IsQueued m l → IsQueued m (omlp_after m before x l)
queued-after m before (Asks u s) l room order fresh k = let f = fresh u s refl in queued-asks m u l f.0 f.1 k (nat_lt (length l.fifo) m) refl
queued-after m before (Frees u s) l room order fresh k = queued-handed m (foremost before l.queue) l room (λ e. foremost-none before order l.queue e) (λ v e. (foremost-some before l.queue v e).0) k
queued-after m before Neither l room order fresh k = k
