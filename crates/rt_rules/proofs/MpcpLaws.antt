-- MPCP: who waits and holds after an act; nobody stands twice, and while one waits somebody holds.
use Rattle.std.proofs.Common.{◌≡◌, ℕ, Bool, true, false, ◌||◌, ◌⊎◌, inl, inr, eqb-true, [], ◌∷◌, ◌++◌, refl}
use Rattle.std.specs.Prelude.{Option, None, Some, ◌==◌, is_none}
use Rattle.rt_rules.specs.Distinct.{IsDistinct}
use Rattle.rt_rules.specs.Mpcp.{mpcp_after, after_ask, passed_on}
use Rattle.rt_rules.specs.Numbers.{has, is, without, foremost}
use Rattle.rt_rules.specs.SemState.{SemAct, Asks, Frees, Neither, SemState}
use Rattle.rt_rules.proofs.BoolLaws.{clash, unless, either, or_true}
use Rattle.rt_rules.proofs.MemberLaws.{is_one, has-appended, has-one, has-without, find-some}
use Rattle.rt_rules.proofs.DistinctLaws.{distinct-append, distinct-without, without-gone}
use Rattle.rt_rules.proofs.KeyLaws.{IsOrder, foremost-none}
use Rattle.rt_rules.proofs.SemActLaws.{AsksSome, FreesSome, asks-some, frees-some}

-- who waits did before, or asks and somebody holds
pub mpcp-waits : (above : ℕ → ℕ → Bool) (t : ℕ) (x : SemAct) (l : SemState) → has t (mpcp_after above x l).waiting ≡ true → (has t l.waiting ≡ true) ⊎ AsksSome t x × (is_none l.holder ≡ false)
mpcp-waits above t (Asks u s) l h = by_holder l.holder h
  where
    by_holder : (o : Option ℕ) → has t (after_ask u o l).waiting ≡ true → (has t l.waiting ≡ true) ⊎ AsksSome t (Asks u s) × (is_none o ≡ false)
    by_holder None k = inl k
    by_holder (Some v) k = join (has-appended t l.waiting (u ∷ []) k)
      where
        join : (has t l.waiting ≡ true) ⊎ (has t (u ∷ []) ≡ true) → (has t l.waiting ≡ true) ⊎ AsksSome t (Asks u s) × (false ≡ false)
        join (inl n) = inl n
        join (inr n) = inr (asks-some t u s (has-one t u n), refl)
mpcp-waits above t (Frees u s) l h = inl (by_next (foremost above l.waiting) h)
  where
    by_next : (o : Option ℕ) → has t (passed_on o l.waiting).waiting ≡ true → has t l.waiting ≡ true
    by_next None k = k
    by_next (Some v) k = has-without t v l.waiting k
mpcp-waits above t Neither l h = inl h

-- a task holds or waits
abbrev pub stands_at : ℕ → SemState → Bool
stands_at t l = is t l.holder || has t l.waiting

-- who holds or waits did before, or asks
pub mpcp-stands : (above : ℕ → ℕ → Bool) (t : ℕ) (x : SemAct) (l : SemState) → stands_at t (mpcp_after above x l) ≡ true → (stands_at t l ≡ true) ⊎ AsksSome t x
mpcp-stands above t (Asks u s) l h = by_holder l.holder refl h
  where
    by_holder : (o : Option ℕ) → l.holder ≡ o → stands_at t (after_ask u o l) ≡ true → (is t l.holder || has t l.waiting ≡ true) ⊎ AsksSome t (Asks u s)
    by_holder None o k = join (either (t == u) (has t l.waiting) k)
      where
        join : (t == u ≡ true) ⊎ (has t l.waiting ≡ true) → (is t l.holder || has t l.waiting ≡ true) ⊎ AsksSome t (Asks u s)
        join (inl n) = inr (asks-some t u s (eqb-true t u n))
        join (inr n) = inl (rw n (or_true (is t l.holder)))
    by_holder (Some v) o k = join (either (is t l.holder) _ k)
      where
        last : (has t l.waiting ≡ true) ⊎ (has t (u ∷ []) ≡ true) → (is t l.holder || has t l.waiting ≡ true) ⊎ AsksSome t (Asks u s)
        last (inl n) = inl (rw n (or_true (is t l.holder)))
        last (inr n) = inr (asks-some t u s (has-one t u n))

        join : (is t l.holder ≡ true) ⊎ (has t (l.waiting ++ u ∷ []) ≡ true) → (is t l.holder || has t l.waiting ≡ true) ⊎ AsksSome t (Asks u s)
        join (inl n) = inl (rw n)
        join (inr n) = last (has-appended t l.waiting (u ∷ []) n)
mpcp-stands above t (Frees u s) l h = inl (by_next (foremost above l.waiting) refl h)
  where
    by_next : (o : Option ℕ) → foremost above l.waiting ≡ o → stands_at t (passed_on o l.waiting) ≡ true → is t l.holder || has t l.waiting ≡ true
    by_next None e k = rw k (or_true (is t l.holder))
    by_next (Some v) e k = join (either (t == v) (has t (without v l.waiting)) k)
      where
        join : (t == v ≡ true) ⊎ (has t (without v l.waiting) ≡ true) → is t l.holder || has t l.waiting ≡ true
        join (inl n) = rw (eqb-true t v n, (find-some _ l.waiting v e).0) (or_true (is v l.holder))
        join (inr n) = rw (has-without t v l.waiting n) (or_true (is t l.holder))
mpcp-stands above t Neither l h = inl h

-- who holds goes on until it frees
pub mpcp-holds : (above : ℕ → ℕ → Bool) (t : ℕ) (x : SemAct) (l : SemState) → ((u s : ℕ) → x ≡ Frees u s → is u l.holder ≡ true) → is t l.holder ≡ true → (is t (mpcp_after above x l).holder ≡ true) ⊎ FreesSome t x
mpcp-holds above t (Asks u s) l frees h = inl (by_holder l.holder h)
  where
    by_holder : (o : Option ℕ) → is t o ≡ true → is t (after_ask u o l).holder ≡ true
    by_holder None k = cc
    by_holder (Some v) k = h
mpcp-holds above t (Frees u s) l frees h = inr (frees-some t u s (is_one t u l.holder h (frees u s refl)))
mpcp-holds above t Neither l frees h = inl h

-- ---- nobody stands twice

-- nobody waits twice, and who holds does not wait
pub record StandsOnce (l : SemState) : Type 0 where
  pub once : IsDistinct l.waiting
  pub apart : (t : ℕ) → is t l.holder ≡ true → has t l.waiting ≡ false

-- an act keeps that, where whoever asks neither holds nor waits
pub mpcp-once : (above : ℕ → ℕ → Bool) (x : SemAct) (l : SemState) → ((t s : ℕ) → x ≡ Asks t s → (is t l.holder ≡ false) × (has t l.waiting ≡ false)) → StandsOnce l → StandsOnce (mpcp_after above x l)
mpcp-once above (Asks u s) l fresh k = by_holder (fresh u s refl) l.holder
  where
    by_holder : (is u l.holder ≡ false) × (has u l.waiting ≡ false) → (o : Option ℕ) → StandsOnce (after_ask u o l)
    by_holder f None = record { once = k.once; apart = λ t h. rw (eqb-true t u h) f.1 }
    by_holder f (Some v) = record { once = distinct-append u l.waiting k.once f.1; apart = λ t h. unless _ (λ n. met t h (has-appended t l.waiting (u ∷ []) n)) }
      where
        met : (t : ℕ) → is t l.holder ≡ true → (has t l.waiting ≡ true) ⊎ (has t (u ∷ []) ≡ true) → ⊥
        met t h (inl n) = clash _ n (k.apart t h)
        met t h (inr n) = let m : is t l.holder ≡ false = rw (has-one t u n) f.0 in clash _ h m
mpcp-once above (Frees u s) l fresh k = by_next (foremost above l.waiting)
  where
    by_next : (o : Option ℕ) → StandsOnce (passed_on o l.waiting)
    by_next None = record { once = k.once; apart = λ t h. cc }
    by_next (Some v) = record { once = distinct-without v l.waiting k.once; apart = λ t h. rw (eqb-true t v h) (without-gone v l.waiting k.once) }
mpcp-once above Neither l fresh k = k

-- ---- while one waits somebody holds

-- while one waits somebody holds
abbrev pub IsBusy : SemState → Type 0
IsBusy l = (t : ℕ) → has t l.waiting ≡ true → is_none l.holder ≡ false

-- an act keeps that
pub mpcp-busy : (above : ℕ → ℕ → Bool) (x : SemAct) (l : SemState) → IsOrder above → IsBusy l → IsBusy (mpcp_after above x l)
mpcp-busy above (Asks u s) l order k = by_holder l.holder refl
  where
    by_holder : (o : Option ℕ) → l.holder ≡ o → IsBusy (after_ask u o l)
    by_holder None e = λ t h. refl
    by_holder (Some v) e = λ t h. rw e
mpcp-busy above (Frees u s) l order k = by_next (foremost above l.waiting) refl
  where
    by_next : (o : Option ℕ) → foremost above l.waiting ≡ o → IsBusy (passed_on o l.waiting)
    by_next None e = λ t h. let none : l.waiting ≡ [] = foremost-none above order l.waiting e in absurd (clash _ h (rw none))
    by_next (Some v) e = λ t h. refl
mpcp-busy above Neither l order k = k
