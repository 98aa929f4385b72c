-- PCP: passing, what the grants keep, and who waits and holds after an act.
use Rattle.std.proofs.Common.{Bool, List, [], cond, eqb-true, false, inl, inr, not, refl, subst, sym, true, ℕ, ◌&&◌, ◌++◌, ◌||◌, ◌∙◌, ◌∷◌, ◌≡◌, ◌⊎◌}
use Rattle.std.specs.List.{list_all}
use Rattle.std.specs.Prelude.{if◌then◌else◌, ⊤, ◌==◌}
use Rattle.rt_rules.specs.Distinct.{IsDistinct}
use Rattle.rt_rules.specs.Numbers.{has}
use Rattle.rt_rules.specs.Pcp.{PcpState, TaskSem, granted, in_order, is_same_pair, of_others, passes, pcp_after, tested, without_pair}
use Rattle.rt_rules.specs.SemState.{Asks, Frees, Neither, SemAct}
use Rattle.rt_rules.proofs.BoolLaws.{both, clash, either, or_true, unless, and_false, or_else, or_false}
use Rattle.rt_rules.proofs.DistinctLaws.{distinct-append}
use Rattle.rt_rules.proofs.PairLaws.{distinct-without_pair, has_pair, has_pair-append, has_pair-in_order, has_pair-without_pair, tasks-append, tasks_of_pairs, without_pair-gone, without_pair-keeps}

-- each grant passed what others held before it
abbrev pub IsStacked : (ℕ → ℕ → Bool) → List TaskSem → Type 0
IsStacked above_ceiling [] = ⊤
IsStacked above_ceiling (p ∷ ps) = (passes above_ceiling ps p.task ≡ true) × IsStacked above_ceiling ps

-- the grants are stacked, and who waits does not pass
pub record IsStack (above_ceiling : ℕ → ℕ → Bool) (l : PcpState) : Type 0 where
  pub stacked : IsStacked above_ceiling l.held
  pub blocked : (t s : ℕ) → has_pair t s l.waiting ≡ true → passes above_ceiling l.held t ≡ false

-- ---- passing

-- passing one more grant
pub passes-cons : (above_ceiling : ℕ → ℕ → Bool) (p : TaskSem) (ps : List TaskSem) (t : ℕ) → passes above_ceiling (p ∷ ps) t ≡ (p.task == t || above_ceiling t p.sem) && passes above_ceiling ps t
passes-cons above_ceiling p ps t = by_case (p.task == t)
  where
    by_case : (b : Bool) → list_all (λ x. above_ceiling t x.sem) (cond (not b) (p ∷ of_others t ps) (of_others t ps)) ≡ (b || above_ceiling t p.sem) && passes above_ceiling ps t
    by_case true = refl
    by_case false = refl

pub passes-more : (above_ceiling : ℕ → ℕ → Bool) (p : TaskSem) (ps : List TaskSem) (t : ℕ) → passes above_ceiling ps t ≡ false → passes above_ceiling (p ∷ ps) t ≡ false
passes-more above_ceiling p ps t h = rw (passes-cons, h) (and_false (p.task == t || above_ceiling t p.sem))

passes-without_pair : (above_ceiling : ℕ → ℕ → Bool) (q : TaskSem) (ps : List TaskSem) (t : ℕ) → passes above_ceiling ps t ≡ true → passes above_ceiling (without_pair q ps) t ≡ true
passes-without_pair above_ceiling q [] t h = refl
passes-without_pair above_ceiling q (p ∷ ps) t h = by_case (is_same_pair q p) (both (p.task == t || above_ceiling t p.sem) (passes above_ceiling ps t) (rw passes-cons at h)) (passes-without_pair above_ceiling q ps t)
  where
    by_case : (b : Bool) → (p.task == t || above_ceiling t p.sem ≡ true) × (passes above_ceiling ps t ≡ true) → (passes above_ceiling ps t ≡ true → passes above_ceiling (without_pair q ps) t ≡ true) → passes above_ceiling (cond (not b) (p ∷ without_pair q ps) (without_pair q ps)) t ≡ true
    by_case true k r = r k.1
    by_case false k r = rw (passes-cons above_ceiling p (without_pair q ps) t, k.0, r k.1)

-- what one passes it is over, where another holds it
pub passes-above_ceiling : (above_ceiling : ℕ → ℕ → Bool) (ps : List TaskSem) (t u s : ℕ) → passes above_ceiling ps t ≡ true → has_pair u s ps ≡ true → u == t ≡ false → above_ceiling t s ≡ true
passes-above_ceiling above_ceiling [] t u s h k ne = cc
passes-above_ceiling above_ceiling (p ∷ ps) t u s h k ne = split (both _ _ (rw passes-cons at h)) (either (u == p.task && s == p.sem) _ k) (λ a b. passes-above_ceiling above_ceiling ps t u s a b ne)
  where
    split : (p.task == t || above_ceiling t p.sem ≡ true) × (passes above_ceiling ps t ≡ true) → (u == p.task && s == p.sem ≡ true) ⊎ (has_pair u s ps ≡ true) → (passes above_ceiling ps t ≡ true → has_pair u s ps ≡ true → above_ceiling t s ≡ true) → above_ceiling t s ≡ true
    split q (inl m) r = let e = both (u == p.task) (s == p.sem) m in let a : u ≡ p.task = eqb-true u p.task e.0 in let b : s ≡ p.sem = eqb-true s p.sem e.1 in rw b (or_else (p.task == t) (above_ceiling t p.sem) q.0 (rw a at ne))
    split q (inr m) r = r q.1 m

-- ---- the tests after an Unlock

tested-blocked : (above_ceiling : ℕ → ℕ → Bool) (t : ℕ) (ps : List TaskSem) (l : PcpState) → passes above_ceiling l.held t ≡ false → passes above_ceiling (tested above_ceiling ps l).held t ≡ false
tested-blocked above_ceiling t [] l h = h
tested-blocked above_ceiling t (p ∷ ps) l h = tested-blocked above_ceiling t ps (if passes above_ceiling l.held p.task then granted p l else l) (by_case (passes above_ceiling l.held p.task))
  where
    by_case : (b : Bool) → passes above_ceiling (cond b (granted p l) l).held t ≡ false
    by_case true = passes-more above_ceiling p l.held t h
    by_case false = h

waiting-tested : (above_ceiling : ℕ → ℕ → Bool) (t s : ℕ) (ps : List TaskSem) (l : PcpState) → has_pair t s (tested above_ceiling ps l).waiting ≡ true → has_pair t s l.waiting ≡ true
waiting-tested above_ceiling t s [] l h = h
waiting-tested above_ceiling t s (p ∷ ps) l h = by_case (passes above_ceiling l.held p.task) (waiting-tested above_ceiling t s ps (if passes above_ceiling l.held p.task then granted p l else l) h)
  where
    by_case : (b : Bool) → has_pair t s (cond b (granted p l) l).waiting ≡ true → has_pair t s l.waiting ≡ true
    by_case true k = has_pair-without_pair t s p l.waiting k
    by_case false k = k

tested-gone : (above_ceiling : ℕ → ℕ → Bool) (t s : ℕ) (ps : List TaskSem) (l : PcpState) → has_pair t s l.waiting ≡ false → has_pair t s (tested above_ceiling ps l).waiting ≡ false
tested-gone above_ceiling t s [] l h = h
tested-gone above_ceiling t s (p ∷ ps) l h = tested-gone above_ceiling t s ps (if passes above_ceiling l.held p.task then granted p l else l) (by_case (passes above_ceiling l.held p.task))
  where
    by_case : (b : Bool) → has_pair t s (cond b (granted p l) l).waiting ≡ false
    by_case true = unless _ (λ k. clash _ (has_pair-without_pair t s p l.waiting k) h)
    by_case false = h

-- who was tried and still waits does not pass
tested-waits : (above_ceiling : ℕ → ℕ → Bool) (t s : ℕ) (ps : List TaskSem) (l : PcpState) → has_pair t s ps ≡ true → has_pair t s (tested above_ceiling ps l).waiting ≡ true → passes above_ceiling (tested above_ceiling ps l).held t ≡ false
tested-waits above_ceiling t s [] l h k = cc
tested-waits above_ceiling t s (p ∷ ps) l h k = split (either (t == p.task && s == p.sem) _ h) (λ m. tested-waits above_ceiling t s ps (if passes above_ceiling l.held p.task then granted p l else l) m k)
  where
    at_head : t ≡ p.task → s ≡ p.sem → (b : Bool) → passes above_ceiling l.held p.task ≡ b → has_pair t s (tested above_ceiling ps (if b then granted p l else l)).waiting ≡ true → passes above_ceiling (tested above_ceiling ps (if b then granted p l else l)).held t ≡ false
    at_head a b true e m = let gone : has_pair t s (without_pair p l.waiting) ≡ false = rw (a, b) (without_pair-gone p l.waiting) in absurd (clash _ m (tested-gone above_ceiling t s ps (granted p l) gone))
    at_head a b false e m = tested-blocked above_ceiling t ps l (rw a e)

    split : (t == p.task && s == p.sem ≡ true) ⊎ (has_pair t s ps ≡ true) → (has_pair t s ps ≡ true → passes above_ceiling (tested above_ceiling ps (if passes above_ceiling l.held p.task then granted p l else l)).held t ≡ false) → passes above_ceiling (tested above_ceiling ps (if passes above_ceiling l.held p.task then granted p l else l)).held t ≡ false
    split (inl m) r = let e = both (t == p.task) (s == p.sem) m in at_head (eqb-true t p.task e.0) (eqb-true s p.sem e.1) (passes above_ceiling l.held p.task) refl k
    split (inr m) r = r m

tested-stacked : (above_ceiling : ℕ → ℕ → Bool) (ps : List TaskSem) (l : PcpState) → IsStacked above_ceiling l.held → IsStacked above_ceiling (tested above_ceiling ps l).held
tested-stacked above_ceiling [] l h = h
tested-stacked above_ceiling (p ∷ ps) l h = tested-stacked above_ceiling ps (if passes above_ceiling l.held p.task then granted p l else l) (by_case (passes above_ceiling l.held p.task) refl)
  where
    by_case : (b : Bool) → passes above_ceiling l.held p.task ≡ b → IsStacked above_ceiling (cond b (granted p l) l).held
    by_case true e = (e, h)
    by_case false e = h

stacked-without_pair : (above_ceiling : ℕ → ℕ → Bool) (q : TaskSem) (ps : List TaskSem) → IsStacked above_ceiling ps → IsStacked above_ceiling (without_pair q ps)
stacked-without_pair above_ceiling q [] h = tt
stacked-without_pair above_ceiling q (p ∷ ps) h = by_case (is_same_pair q p) (stacked-without_pair above_ceiling q ps h.1)
  where
    by_case : (b : Bool) → IsStacked above_ceiling (without_pair q ps) → IsStacked above_ceiling (cond (not b) (p ∷ without_pair q ps) (without_pair q ps))
    by_case true r = r
    by_case false r = (passes-without_pair above_ceiling q ps p.task h.0, r)

tested-from : (above_ceiling : ℕ → ℕ → Bool) (t s : ℕ) (ps : List TaskSem) (l : PcpState) → has_pair t s (tested above_ceiling ps l).waiting ≡ true → has_pair t s l.waiting ≡ true
tested-from above_ceiling t s ps l h = by_case (has_pair t s l.waiting) refl
  where
    by_case : (b : Bool) → has_pair t s l.waiting ≡ b → b ≡ true
    by_case true e = refl
    by_case false e = absurd (clash _ h (tested-gone above_ceiling t s ps l e))

-- an act keeps that
pub stack-step : (above above_ceiling : ℕ → ℕ → Bool) (x : SemAct) (l : PcpState) → IsStack above_ceiling l → IsStack above_ceiling (pcp_after above above_ceiling x l)
stack-step above above_ceiling (Asks u r) l k = by_case (passes above_ceiling l.held u) refl
  where
    by_case : (b : Bool) → passes above_ceiling l.held u ≡ b → IsStack above_ceiling (cond b (record l { held = record { task = u; sem = r } ∷ l.held }) (record l { waiting = l.waiting ++ record { task = u; sem = r } ∷ [] }))
    by_case true e = record {
      stacked = (e, k.stacked);
      blocked = λ t s h. passes-more above_ceiling (record { task = u; sem = r }) l.held t (k.blocked t s h);
    }
    by_case false e = record {
      stacked = k.stacked;
      blocked = λ t s h. split t s (either (has_pair t s l.waiting) _ (rw has_pair-append at h));
    }
      where
        split : (t s : ℕ) → (has_pair t s l.waiting ≡ true) ⊎ ((t == u && s == r) || false ≡ true) → passes above_ceiling l.held t ≡ false
        split t s (inl m) = k.blocked t s m
        split t s (inr m) = rw (eqb-true t u (both (t == u) (s == r) (or_false _ m)).0) e
stack-step above above_ceiling (Frees u r) l k = record {
  stacked = tested-stacked above_ceiling (in_order above l.waiting) _ (stacked-without_pair above_ceiling (record { task = u; sem = r }) l.held k.stacked);
  blocked = λ t s h. tested-waits above_ceiling t s (in_order above l.waiting) (record l { held = without_pair (record { task = u; sem = r }) l.held }) (rw has_pair-in_order (tested-from above_ceiling t s (in_order above l.waiting) (record l { held = without_pair (record { task = u; sem = r }) l.held }) h)) h;
}
stack-step above above_ceiling Neither l k = k

-- ---- who waits and who holds

-- who waits did before, or asks and does not pass
pub pcp-waits : (above above_ceiling : ℕ → ℕ → Bool) (t s : ℕ) (x : SemAct) (l : PcpState) → has_pair t s (pcp_after above above_ceiling x l).waiting ≡ true → (has_pair t s l.waiting ≡ true) ⊎ (x ≡ Asks t s) × (passes above_ceiling l.held t ≡ false)
pcp-waits above above_ceiling t s (Asks u r) l h = by_case (passes above_ceiling l.held u) refl h
  where
    by_case : (b : Bool) → passes above_ceiling l.held u ≡ b → has_pair t s (cond b (record l { held = record { task = u; sem = r } ∷ l.held }) (record l { waiting = l.waiting ++ record { task = u; sem = r } ∷ [] })).waiting ≡ true → (has_pair t s l.waiting ≡ true) ⊎ (Asks u r ≡ Asks t s) × (passes above_ceiling l.held t ≡ false)
    by_case true e k = inl k
    by_case false e k = join (either _ _ (rw has_pair-append at k))
      where
        join : (has_pair t s l.waiting ≡ true) ⊎ ((t == u && s == r) || false ≡ true) → (has_pair t s l.waiting ≡ true) ⊎ (Asks u r ≡ Asks t s) × (passes above_ceiling l.held t ≡ false)
        join (inl m) = inl m
        join (inr m) = let q = both _ _ (or_false _ m) in let same : t ≡ u = eqb-true t u q.0 in let same_sem : s ≡ r = eqb-true s r q.1 in inr (rw (same, same_sem), rw same e)
pcp-waits above above_ceiling t s (Frees u r) l h = inl (waiting-tested above_ceiling t s (in_order above l.waiting) _ h)
pcp-waits above above_ceiling t s Neither l h = inl h

pub tested-held : (above_ceiling : ℕ → ℕ → Bool) (t s : ℕ) (ps : List TaskSem) (l : PcpState) → has_pair t s (tested above_ceiling ps l).held ≡ true → (has_pair t s l.held ≡ true) ⊎ (has_pair t s ps ≡ true)
tested-held above_ceiling t s [] l h = inl h
tested-held above_ceiling t s (p ∷ ps) l h = join (tested-held above_ceiling t s ps (if passes above_ceiling l.held p.task then granted p l else l) h)
  where
    by_case : (b : Bool) → has_pair t s (cond b (granted p l) l).held ≡ true → (has_pair t s l.held ≡ true) ⊎ ((t == p.task && s == p.sem) || has_pair t s ps ≡ true)
    by_case true k = split (either (t == p.task && s == p.sem) _ k)
      where
        split : (t == p.task && s == p.sem ≡ true) ⊎ (has_pair t s l.held ≡ true) → (has_pair t s l.held ≡ true) ⊎ ((t == p.task && s == p.sem) || has_pair t s ps ≡ true)
        split (inl m) = inr (rw m)
        split (inr m) = inl m
    by_case false k = inl k

    join : (has_pair t s (if passes above_ceiling l.held p.task then granted p l else l).held ≡ true) ⊎ (has_pair t s ps ≡ true) → (has_pair t s l.held ≡ true) ⊎ ((t == p.task && s == p.sem) || has_pair t s ps ≡ true)
    join (inl k) = by_case (passes above_ceiling l.held p.task) k
    join (inr k) = inr (rw k (or_true (t == p.task && s == p.sem)))

-- what is held after a move was held or waited for before it, or is asked for in it
pub pcp-held : (above above_ceiling : ℕ → ℕ → Bool) (t s : ℕ) (x : SemAct) (l : PcpState) → has_pair t s (pcp_after above above_ceiling x l).held ≡ true → ((has_pair t s l.held ≡ true) ⊎ (has_pair t s l.waiting ≡ true)) ⊎ (x ≡ Asks t s)
pcp-held above above_ceiling t s (Asks u r) l h = by_case (passes above_ceiling l.held u) h
  where
    by_case : (b : Bool) → has_pair t s (cond b (record l { held = record { task = u; sem = r } ∷ l.held }) (record l { waiting = l.waiting ++ record { task = u; sem = r } ∷ [] })).held ≡ true → ((has_pair t s l.held ≡ true) ⊎ (has_pair t s l.waiting ≡ true)) ⊎ (Asks u r ≡ Asks t s)
    by_case true k = split (either (t == u && s == r) _ k)
      where
        split : (t == u && s == r ≡ true) ⊎ (has_pair t s l.held ≡ true) → ((has_pair t s l.held ≡ true) ⊎ (has_pair t s l.waiting ≡ true)) ⊎ (Asks u r ≡ Asks t s)
        split (inl m) = let q = both (t == u) (s == r) m in let a : t ≡ u = eqb-true t u q.0 in let b : s ≡ r = eqb-true s r q.1 in inr (rw (a, b))
        split (inr m) = inl (inl m)
    by_case false k = inl (inl k)
pcp-held above above_ceiling t s (Frees u r) l h = split (tested-held above_ceiling t s (in_order above l.waiting) (record l { held = without_pair (record { task = u; sem = r }) l.held }) h)
  where
    split : (has_pair t s (without_pair (record { task = u; sem = r }) l.held) ≡ true) ⊎ (has_pair t s (in_order above l.waiting) ≡ true) → ((has_pair t s l.held ≡ true) ⊎ (has_pair t s l.waiting ≡ true)) ⊎ (Frees u r ≡ Asks t s)
    split (inl m) = inl (inl (has_pair-without_pair t s (record { task = u; sem = r }) l.held m))
    split (inr m) = inl (inr (rw has_pair-in_order at m))
pcp-held above above_ceiling t s Neither l h = inl (inl h)

-- a task holds a semaphore or waits for it
abbrev pub stands_for : ℕ → ℕ → PcpState → Bool
stands_for t s l = has_pair t s l.held || has_pair t s l.waiting

-- who stands for a semaphore did before, or asks for it
pub pcp-stands : (above above_ceiling : ℕ → ℕ → Bool) (t s : ℕ) (x : SemAct) (l : PcpState) → stands_for t s (pcp_after above above_ceiling x l) ≡ true → (stands_for t s l ≡ true) ⊎ (x ≡ Asks t s)
pcp-stands above above_ceiling t s x l h = split (either (has_pair t s (pcp_after above above_ceiling x l).held) _ h)
  where
    held : ((has_pair t s l.held ≡ true) ⊎ (has_pair t s l.waiting ≡ true)) ⊎ (x ≡ Asks t s) → (has_pair t s l.held || has_pair t s l.waiting ≡ true) ⊎ (x ≡ Asks t s)
    held (inl (inl m)) = inl (rw m)
    held (inl (inr m)) = inl (rw m (or_true (has_pair t s l.held)))
    held (inr m) = inr m

    waiting : (has_pair t s l.waiting ≡ true) ⊎ (x ≡ Asks t s) × (passes above_ceiling l.held t ≡ false) → (has_pair t s l.held || has_pair t s l.waiting ≡ true) ⊎ (x ≡ Asks t s)
    waiting (inl m) = inl (rw m (or_true (has_pair t s l.held)))
    waiting (inr m) = inr m.0

    split : (has_pair t s (pcp_after above above_ceiling x l).held ≡ true) ⊎ (has_pair t s (pcp_after above above_ceiling x l).waiting ≡ true) → (has_pair t s l.held || has_pair t s l.waiting ≡ true) ⊎ (x ≡ Asks t s)
    split (inl k) = held (pcp-held above above_ceiling t s x l k)
    split (inr k) = waiting (pcp-waits above above_ceiling t s x l k)

tested-keeps : (above_ceiling : ℕ → ℕ → Bool) (t s : ℕ) (ps : List TaskSem) (l : PcpState) → has_pair t s l.held ≡ true → has_pair t s (tested above_ceiling ps l).held ≡ true
tested-keeps above_ceiling t s [] l h = h
tested-keeps above_ceiling t s (p ∷ ps) l h = tested-keeps above_ceiling t s ps (if passes above_ceiling l.held p.task then granted p l else l) (by_case (passes above_ceiling l.held p.task))
  where
    by_case : (b : Bool) → has_pair t s (cond b (granted p l) l).held ≡ true
    by_case true = rw h (or_true (t == p.task && s == p.sem))
    by_case false = h

-- who holds goes on until it frees
pub pcp-holds : (above above_ceiling : ℕ → ℕ → Bool) (t s : ℕ) (x : SemAct) (l : PcpState) → has_pair t s l.held ≡ true → (has_pair t s (pcp_after above above_ceiling x l).held ≡ true) ⊎ (x ≡ Frees t s)
pcp-holds above above_ceiling t s (Asks u r) l h = inl (by_case (passes above_ceiling l.held u))
  where
    by_case : (b : Bool) → has_pair t s (cond b (record l { held = record { task = u; sem = r } ∷ l.held }) (record l { waiting = l.waiting ++ record { task = u; sem = r } ∷ [] })).held ≡ true
    by_case true = rw h (or_true (t == u && s == r))
    by_case false = h
pcp-holds above above_ceiling t s (Frees u r) l h = by_case (t == u && s == r) refl
  where
    by_case : (b : Bool) → t == u && s == r ≡ b → (has_pair t s (pcp_after above above_ceiling (Frees u r) l).held ≡ true) ⊎ (Frees u r ≡ Frees t s)
    by_case true e = let q = both (t == u) (s == r) e in let a : t ≡ u = eqb-true t u q.0 in let b : s ≡ r = eqb-true s r q.1 in inr (rw (a, b))
    by_case false e = inl (tested-keeps above_ceiling t s (in_order above l.waiting) (record l { held = without_pair (record { task = u; sem = r }) l.held }) (without_pair-keeps t s (record { task = u; sem = r }) l.held e h))
pcp-holds above above_ceiling t s Neither l h = inl h

-- ---- the order of grants

-- two tasks that hold one semaphore are one
pub one_holder_of : (above_ceiling : ℕ → ℕ → Bool) (ps : List TaskSem) → IsStacked above_ceiling ps → (t u s : ℕ) → above_ceiling t s ≡ false → above_ceiling u s ≡ false → has_pair t s ps ≡ true → has_pair u s ps ≡ true → t ≡ u
one_holder_of above_ceiling [] k t u s nt nu ht hu = cc
one_holder_of above_ceiling (p ∷ ps) k t u s nt nu ht hu = split (either (t == p.task && s == p.sem) _ ht) (either (u == p.task && s == p.sem) _ hu) (one_holder_of above_ceiling ps k.1 t u s nt nu)
  where
    newer : (a b : ℕ) → a ≡ p.task → above_ceiling a s ≡ false → has_pair b s ps ≡ true → a ≡ b
    newer a b e na hb = by_case (b == a) refl
      where
        by_case : (c : Bool) → b == a ≡ c → a ≡ b
        by_case true m = sym (eqb-true b a m)
        by_case false m = absurd (clash _ (passes-above_ceiling above_ceiling ps a b s (rw e k.0) hb m) na)

    head_of : (a : ℕ) → a == p.task && s == p.sem ≡ true → a ≡ p.task
    head_of a m = eqb-true a p.task (both (a == p.task) (s == p.sem) m).0

    split : (t == p.task && s == p.sem ≡ true) ⊎ (has_pair t s ps ≡ true) → (u == p.task && s == p.sem ≡ true) ⊎ (has_pair u s ps ≡ true) → (has_pair t s ps ≡ true → has_pair u s ps ≡ true → t ≡ u) → t ≡ u
    split (inl m) (inl n) r = head_of t m ∙ sym (head_of u n)
    split (inl m) (inr n) r = newer t u (head_of t m) nt n
    split (inr m) (inl n) r = sym (newer u t (head_of u n) nu m)
    split (inr m) (inr n) r = r m n

-- who does not pass is not the owner of the newest grant
pub newest-other : (above_ceiling : ℕ → ℕ → Bool) (p : TaskSem) (ps : List TaskSem) (t : ℕ) → IsStacked above_ceiling (p ∷ ps) → passes above_ceiling (p ∷ ps) t ≡ false → p.task == t ≡ false
newest-other above_ceiling p ps t k h = unless _ (λ e. let same : p.task ≡ t = eqb-true p.task t e in let pass : passes above_ceiling ps t ≡ true = subst (λ n. passes above_ceiling ps n ≡ true) same k.0 in let m : passes above_ceiling (p ∷ ps) t ≡ true = rw (passes-cons above_ceiling p ps t, e, pass) in clash _ m h)

-- ---- each waiting task stands once

distinct-tested : (above_ceiling : ℕ → ℕ → Bool) (ps : List TaskSem) (l : PcpState) → IsDistinct (tasks_of_pairs l.waiting) → IsDistinct (tasks_of_pairs (tested above_ceiling ps l).waiting)
distinct-tested above_ceiling [] l d = d
distinct-tested above_ceiling (p ∷ ps) l d = distinct-tested above_ceiling ps (if passes above_ceiling l.held p.task then granted p l else l) (by_case (passes above_ceiling l.held p.task))
  where
    by_case : (b : Bool) → IsDistinct (tasks_of_pairs (cond b (granted p l) l).waiting)
    by_case true = distinct-without_pair p l.waiting d
    by_case false = d

-- an act lets no task wait twice, where whoever asks does not wait
pub pcp-once : (before above_ceiling : ℕ → ℕ → Bool) (x : SemAct) (l : PcpState) → ((t s : ℕ) → x ≡ Asks t s → has t (tasks_of_pairs l.waiting) ≡ false) → IsDistinct (tasks_of_pairs l.waiting) → IsDistinct (tasks_of_pairs (pcp_after before above_ceiling x l).waiting)
pcp-once before above_ceiling (Asks u r) l fresh d = by_case (passes above_ceiling l.held u)
  where
    by_case : (b : Bool) → IsDistinct (tasks_of_pairs (cond b (record l { held = record { task = u; sem = r } ∷ l.held }) (record l { waiting = l.waiting ++ record { task = u; sem = r } ∷ [] })).waiting)
    by_case true = d
    by_case false = rw (tasks-append l.waiting u r) (distinct-append u (tasks_of_pairs l.waiting) d (fresh u r refl))
pcp-once before above_ceiling (Frees u r) l fresh d = distinct-tested above_ceiling (in_order before l.waiting) (record l { held = without_pair (record { task = u; sem = r }) l.held }) d
pcp-once before above_ceiling Neither l fresh d = d
