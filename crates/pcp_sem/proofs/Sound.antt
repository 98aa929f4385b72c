-- The facts that the type keeps, over each act.
use Rattle.std.proofs.Common.{◌≡◌, ℕ, ◌<◌, ◌≤◌, Bool, true, false, not, ◌&&◌, ◌||◌, cond, ◌⊎◌, inl, inr, eqb-true, List, [], ◌∷◌, ◌++◌, length, refl, ap, ◌∙◌, subst, arith}
use Rattle.std.specs.Prelude.{◌==◌, if◌then◌else◌}
use Rattle.std.specs.List.{list_all}
use Rattle.rt_rules.specs.declared.Key.{Key}
use Rattle.rt_rules.specs.KeyOrder.{higher}
use Rattle.rt_rules.specs.Distinct.{IsDistinct}
use Rattle.rt_rules.specs.Numbers.{has}
use Rattle.rt_rules.specs.SemState.{Asks, Frees}
use Rattle.rt_rules.specs.Pcp.{TaskSem, PcpState, of_others, without_pair, is_same_pair, granted, tested, passes, in_order, pcp_after}
use Rattle.rt_rules.proofs.PlacingLaws.{either, or_true, unless}
use Rattle.sem_laws.specs.KeptKeys.{key_at, above}
use Rattle.rt_rules.proofs.MemberLaws.{equal_self}
use Rattle.rt_rules.proofs.DistinctLaws.{distinct-append, length-few}
use Rattle.rt_rules.proofs.BoolLaws.{both, clash}
use Rattle.pcp_sem.specs.Pairs.{has_pair, tasks_of, sems_of}
use Rattle.pcp_sem.specs.Stack.{IsStacked, IsStack}
use Rattle.pcp_sem.specs.PcpKept.{above_ceiling}
use Rattle.pcp_sem.specs.IsPcp.{IsUser, IsSound}
use Rattle.rt_rules.proofs.PairLaws.{distinct-in_order, has_pair-append, has_pair-in_order, has_pair-without_pair, pair-of, without_pair-gone}
use Rattle.rt_rules.proofs.PcpLaws.{passes-above_ceiling}

-- ---- members

-- a semaphore of a list of pairs has a task there
pub sem-pair : (s : ℕ) (ps : List TaskSem) → has s (sems_of ps) ≡ true → (t : ℕ) × (has_pair t s ps ≡ true)
sem-pair s [] h = cc
sem-pair s (p ∷ ps) h = split (either (s == p.sem) _ h) (sem-pair s ps)
  where
    split : (s == p.sem ≡ true) ⊎ (has s (sems_of ps) ≡ true) → (has s (sems_of ps) ≡ true → (t : ℕ) × (has_pair t s ps ≡ true)) → (t : ℕ) × (has_pair t s (p ∷ ps) ≡ true)
    split (inl k) r = (p.task, rw (k, equal_self p.task))
    split (inr k) r = let q = r k in (q.0, rw q.1 (or_true (q.0 == p.task && s == p.sem)))

pub pair-task : (t s : ℕ) (ps : List TaskSem) → has_pair t s ps ≡ true → has t (tasks_of ps) ≡ true
pair-task t s [] h = cc
pair-task t s (p ∷ ps) h = split (either (t == p.task && s == p.sem) _ h) (pair-task t s ps)
  where
    split : (t == p.task && s == p.sem ≡ true) ⊎ (has_pair t s ps ≡ true) → (has_pair t s ps ≡ true → has t (tasks_of ps) ≡ true) → t == p.task || has t (tasks_of ps) ≡ true
    split (inl k) r = rw (both (t == p.task) (s == p.sem) k).0
    split (inr k) r = ap (λ b. t == p.task || b) (r k) ∙ or_true (t == p.task)

tasks-push : (ps : List TaskSem) (p : TaskSem) → tasks_of (ps ++ p ∷ []) ≡ tasks_of ps ++ p.task ∷ []
tasks-push [] p = refl
tasks-push (q ∷ ps) p = ap (λ (ts : List ℕ). q.task ∷ ts) (tasks-push ps p)

pub has-tasks-without : (t : ℕ) (p : TaskSem) (ps : List TaskSem) → has t (tasks_of (without_pair p ps)) ≡ true → has t (tasks_of ps) ≡ true
has-tasks-without t p ps h = let q = pair-of t (without_pair p ps) h in pair-task t q.0 ps (has_pair-without_pair t q.0 p ps q.1)

has-sems-without : (s : ℕ) (p : TaskSem) (ps : List TaskSem) → has s (sems_of (without_pair p ps)) ≡ true → has s (sems_of ps) ≡ true
has-sems-without s p [] h = h
has-sems-without s p (q ∷ qs) h = by_case (is_same_pair p q) h (has-sems-without s p qs)
  where
    by_case : (b : Bool) → has s (sems_of (cond (not b) (q ∷ without_pair p qs) (without_pair p qs))) ≡ true → (has s (sems_of (without_pair p qs)) ≡ true → has s (sems_of qs) ≡ true) → s == q.sem || has s (sems_of qs) ≡ true
    by_case true k r = ap (λ b. s == q.sem || b) (r k) ∙ or_true (s == q.sem)
    by_case false k r = join (either (s == q.sem) _ k)
      where
        join : (s == q.sem ≡ true) ⊎ (has s (sems_of (without_pair p qs)) ≡ true) → s == q.sem || has s (sems_of qs) ≡ true
        join (inl m) = rw m
        join (inr m) = ap (λ b. s == q.sem || b) (r m) ∙ or_true (s == q.sem)

distinct-tasks-without : (p : TaskSem) (ps : List TaskSem) → IsDistinct (tasks_of ps) → IsDistinct (tasks_of (without_pair p ps))
distinct-tasks-without p [] d = tt
distinct-tasks-without p (q ∷ qs) d = by_case (is_same_pair p q) (distinct-tasks-without p qs d.1)
  where
    by_case : (b : Bool) → IsDistinct (tasks_of (without_pair p qs)) → IsDistinct (tasks_of (cond (not b) (q ∷ without_pair p qs) (without_pair p qs)))
    by_case true r = r
    by_case false r = (unless _ (λ h. clash _ (has-tasks-without q.task p qs h) d.0), r)

distinct-sems-without : (p : TaskSem) (ps : List TaskSem) → IsDistinct (sems_of ps) → IsDistinct (sems_of (without_pair p ps))
distinct-sems-without p [] d = tt
distinct-sems-without p (q ∷ qs) d = by_case (is_same_pair p q) (distinct-sems-without p qs d.1)
  where
    by_case : (b : Bool) → IsDistinct (sems_of (without_pair p qs)) → IsDistinct (sems_of (cond (not b) (q ∷ without_pair p qs) (without_pair p qs)))
    by_case true r = r
    by_case false r = (unless _ (λ h. clash _ (has-sems-without q.sem p qs h) d.0), r)

module _ (ceilings keys : List Key) where
  abbrev over : ℕ → ℕ → Bool
  over = above_ceiling keys ceilings

  -- who passes asks for no semaphore that another one holds
  free-sem : (t s : ℕ) (held : List TaskSem) → passes over held t ≡ true → over t s ≡ false → has_pair t s held ≡ false → has s (sems_of held) ≡ false
  free-sem t s held pass low out = unless _ (λ h. taken (sem-pair s held h))
    where
      taken : (u : ℕ) × (has_pair u s held ≡ true) → ⊥
      taken q = by_case (q.0 == t) refl
        where
          by_case : (b : Bool) → q.0 == t ≡ b → ⊥
          by_case true e = let m : has_pair t s held ≡ true = subst (λ n. has_pair n s held ≡ true) (eqb-true q.0 t e) q.1 in clash _ m out
          by_case false e = clash _ (passes-above_ceiling over held t q.0 s pass q.1 e) low

  -- a pair that is granted
  sound-grant : (p : TaskSem) (held waiting : List TaskSem) → IsSound ceilings keys (record { held = held; waiting = waiting }) → IsUser ceilings keys p.task p.sem → has_pair p.task p.sem held ≡ false → passes over held p.task ≡ true → has_pair p.task p.sem waiting ≡ false → IsSound ceilings keys (record { held = p ∷ held; waiting = waiting })
  sound-grant p held waiting ok user out pass away = record {
    held_by = λ t s h. by t s (either (t == p.task && s == p.sem) _ h);
    awaited_by = ok.awaited_by;
    one_holder = (free-sem p.task p.sem held pass user.low out, ok.one_holder);
    waits_once = ok.waits_once;
    unheld = λ t s h. unless _ (λ k. clash_at t s h (either (t == p.task && s == p.sem) _ k));
  }
    where
      by : (t s : ℕ) → (t == p.task && s == p.sem ≡ true) ⊎ (has_pair t s held ≡ true) → IsUser ceilings keys t s
      by t s (inl m) = let e = both (t == p.task) (s == p.sem) m in let a : t ≡ p.task = eqb-true t p.task e.0 in let b : s ≡ p.sem = eqb-true s p.sem e.1 in rw (a, b) user
      by t s (inr m) = ok.held_by t s m

      clash_at : (t s : ℕ) → has_pair t s waiting ≡ true → (t == p.task && s == p.sem ≡ true) ⊎ (has_pair t s held ≡ true) → ⊥
      clash_at t s h (inl m) = let e = both (t == p.task) (s == p.sem) m in let a : t ≡ p.task = eqb-true t p.task e.0 in let b : s ≡ p.sem = eqb-true s p.sem e.1 in let n : has_pair t s waiting ≡ false = rw (a, b) away in clash _ h n
      clash_at t s h (inr m) = clash _ m (ok.unheld t s h)

  -- a pair that waits no longer
  sound-left : (p : TaskSem) (held waiting : List TaskSem) → IsSound ceilings keys (record { held = held; waiting = waiting }) → IsSound ceilings keys (record { held = held; waiting = without_pair p waiting })
  sound-left p held waiting ok = record {
    held_by = ok.held_by;
    awaited_by = λ t s h. ok.awaited_by t s (has_pair-without_pair t s p waiting h);
    one_holder = ok.one_holder;
    waits_once = distinct-tasks-without p waiting ok.waits_once;
    unheld = λ t s h. ok.unheld t s (has_pair-without_pair t s p waiting h);
  }

  -- a pair that is freed
  sound-freed : (p : TaskSem) (l : PcpState) → IsSound ceilings keys l → IsSound ceilings keys (record l { held = without_pair p l.held })
  sound-freed p l ok = record {
    held_by = λ t s h. ok.held_by t s (has_pair-without_pair t s p l.held h);
    awaited_by = ok.awaited_by;
    one_holder = distinct-sems-without p l.held ok.one_holder;
    waits_once = ok.waits_once;
    unheld = λ t s h. unless _ (λ k. clash _ (has_pair-without_pair t s p l.held k) (ok.unheld t s h));
  }

  -- the tests of pairs of different tasks
  sound-tested : (ps : List TaskSem) (l : PcpState) → IsSound ceilings keys l → IsDistinct (tasks_of ps) → ((t s : ℕ) → has_pair t s ps ≡ true → IsUser ceilings keys t s × (has_pair t s l.held ≡ false)) → IsSound ceilings keys (tested over ps l)
  sound-tested [] l ok d each = ok
  sound-tested (p ∷ ps) l ok d each = by_case (passes over l.held p.task) refl (λ m rest. sound-tested ps m rest d.1)
    where
      here : IsUser ceilings keys p.task p.sem × (has_pair p.task p.sem l.held ≡ false)
      here = each p.task p.sem (rw (equal_self p.task, equal_self p.sem))

      later : (t s : ℕ) → has_pair t s ps ≡ true → IsUser ceilings keys t s × (has_pair t s l.held ≡ false)
      later t s h = each t s (ap (λ b. (t == p.task && s == p.sem) || b) h ∙ or_true (t == p.task && s == p.sem))

      not_it : (t s : ℕ) → has_pair t s ps ≡ true → t == p.task ≡ false
      not_it t s h = unless _ (λ e. let a : t ≡ p.task = eqb-true t p.task e in let m : has p.task (tasks_of ps) ≡ true = subst (λ n. has n (tasks_of ps) ≡ true) a (pair-task t s ps h) in clash _ m d.0)

      after : (t s : ℕ) → has_pair t s ps ≡ true → IsUser ceilings keys t s × (has_pair t s (p ∷ l.held) ≡ false)
      after t s h = let q = later t s h in (q.0, rw (not_it t s h, q.1))

      by_case : (b : Bool) → passes over l.held p.task ≡ b → ((m : PcpState) → IsSound ceilings keys m → ((t s : ℕ) → has_pair t s ps ≡ true → IsUser ceilings keys t s × (has_pair t s m.held ≡ false)) → IsSound ceilings keys (tested over ps m)) → IsSound ceilings keys (tested over ps (if b then granted p l else l))
      by_case true e rec = rec (granted p l) (sound-grant p l.held (without_pair p l.waiting) (sound-left p l.held l.waiting ok) here.0 here.1 e (without_pair-gone p l.waiting)) after
      by_case false e rec = rec l ok later

  pub sound-frees : (t s : ℕ) (l : PcpState) → IsSound ceilings keys l → IsSound ceilings keys (pcp_after (above keys) over (Frees t s) l)
  sound-frees t s l ok = sound-tested (in_order (above keys) l.waiting) (record l { held = without_pair (record { task = t; sem = s }) l.held }) freed (distinct-in_order (above keys) l.waiting ok.waits_once) each
    where
      freed : IsSound ceilings keys (record l { held = without_pair (record { task = t; sem = s }) l.held })
      freed = sound-freed (record { task = t; sem = s }) l ok

      each : (u r : ℕ) → has_pair u r (in_order (above keys) l.waiting) ≡ true → IsUser ceilings keys u r × (has_pair u r (without_pair (record { task = t; sem = s }) l.held) ≡ false)
      each u r h = let w : has_pair u r l.waiting ≡ true = rw has_pair-in_order at h in (ok.awaited_by u r w, freed.unheld u r w)

  pub sound-asks : (t s : ℕ) (l : PcpState) → IsSound ceilings keys l → IsUser ceilings keys t s → has t (tasks_of l.waiting) ≡ false → has_pair t s l.held ≡ false → IsSound ceilings keys (pcp_after (above keys) over (Asks t s) l)
  sound-asks t s l ok user idle out = by_case (passes over l.held t) refl
    where
      by_case : (b : Bool) → passes over l.held t ≡ b → IsSound ceilings keys (cond b (record l { held = record { task = t; sem = s } ∷ l.held }) (record l { waiting = l.waiting ++ record { task = t; sem = s } ∷ [] }))
      by_case true e = sound-grant (record { task = t; sem = s }) l.held l.waiting ok user out e (unless _ (λ h. clash _ (pair-task t s l.waiting h) idle))
      by_case false e = record {
        held_by = ok.held_by;
        awaited_by = λ u r h. by u r (either (has_pair u r l.waiting) _ (rw has_pair-append at h));
        one_holder = ok.one_holder;
        waits_once = rw tasks-push (distinct-append t (tasks_of l.waiting) ok.waits_once idle);
        unheld = λ u r h. apart u r (either (has_pair u r l.waiting) _ (rw has_pair-append at h));
      }
        where
          or_false : (a : Bool) → a || false ≡ true → a ≡ true
          or_false true n = refl
          or_false false n = cc

          by : (u r : ℕ) → (has_pair u r l.waiting ≡ true) ⊎ ((u == t && r == s) || false ≡ true) → IsUser ceilings keys u r
          by u r (inl m) = ok.awaited_by u r m
          by u r (inr m) = let e = both (u == t) (r == s) (or_false _ m) in let a : u ≡ t = eqb-true u t e.0 in let b : r ≡ s = eqb-true r s e.1 in rw (a, b) user

          apart : (u r : ℕ) → (has_pair u r l.waiting ≡ true) ⊎ ((u == t && r == s) || false ≡ true) → has_pair u r l.held ≡ false
          apart u r (inl m) = ok.unheld u r m
          apart u r (inr m) = let e = both (u == t) (r == s) (or_false _ m) in let a : u ≡ t = eqb-true u t e.0 in let b : r ≡ s = eqb-true r s e.1 in rw (a, b) out

  -- ---- how many there are

  pub few-held : (l : PcpState) → IsSound ceilings keys l → length l.held ≤ length ceilings
  few-held l ok = omega (arith, length-few (length ceilings) (sems_of l.held) ok.one_holder (λ s h. let q = sem-pair s l.held h in (ok.held_by q.0 s q.1).sem), length-sems l.held)
    where
      length-sems : (ps : List TaskSem) → length (sems_of ps) ≡ length ps
      length-sems [] = refl
      length-sems (p ∷ ps) = omega (arith, length-sems ps)

  length-tasks : (ps : List TaskSem) → length (tasks_of ps) ≡ length ps
  length-tasks [] = refl
  length-tasks (p ∷ ps) = omega (arith, length-tasks ps)

  pub few-waiting : (l : PcpState) → IsSound ceilings keys l → length l.waiting ≤ length keys
  few-waiting l ok = omega (arith, length-few (length keys) (tasks_of l.waiting) ok.waits_once (λ t h. let q = pair-of t l.waiting h in (ok.awaited_by t q.0 q.1).task), length-tasks l.waiting)

  pub one-more-waiting : (t : ℕ) (l : PcpState) → IsSound ceilings keys l → t < length keys → has t (tasks_of l.waiting) ≡ false → length l.waiting < length keys
  one-more-waiting t l ok below idle = omega (arith, length-few (length keys) (t ∷ tasks_of l.waiting) (idle, ok.waits_once) (λ u h. under u (either (u == t) _ h)), length-tasks l.waiting)
    where
      under : (u : ℕ) → (u == t ≡ true) ⊎ (has u (tasks_of l.waiting) ≡ true) → u < length keys
      under u (inl m) = let e : u ≡ t = eqb-true u t m in omega arith
      under u (inr m) = let q = pair-of u l.waiting m in (ok.awaited_by u q.0 q.1).task

-- ---- a task that gives its key anew

module _ (ceilings keys keys' : List Key) where
  passes-same : (t : ℕ) (held : List TaskSem) → key_at keys' t ≡ key_at keys t → passes (above_ceiling keys' ceilings) held t ≡ passes (above_ceiling keys ceilings) held t
  passes-same t held e = ap (λ k. list_all (λ (p : TaskSem). higher k (key_at ceilings p.sem)) (of_others t held)) e

  user-same : (t s : ℕ) → length keys' ≡ length keys → key_at keys' t ≡ key_at keys t → IsUser ceilings keys t s → IsUser ceilings keys' t s
  user-same t s len e u = record {
    task = omega (arith, u.task);
    sem = u.sem;
    low = ap (λ k. higher k (key_at ceilings s)) e ∙ u.low;
  }

  stacked-same : (held : List TaskSem) → ((t s : ℕ) → has_pair t s held ≡ true → key_at keys' t ≡ key_at keys t) → IsStacked (above_ceiling keys ceilings) held → IsStacked (above_ceiling keys' ceilings) held
  stacked-same [] same h = tt
  stacked-same (p ∷ ps) same h = (passes-same p.task ps (same p.task p.sem (rw (equal_self p.task, equal_self p.sem))) ∙ h.0, stacked-same ps (λ t s k. same t s (ap (λ b. (t == p.task && s == p.sem) || b) k ∙ or_true (t == p.task && s == p.sem))) h.1)

  pub stack-rekeyed : (l : PcpState) → ((t s : ℕ) → has_pair t s l.held ≡ true → key_at keys' t ≡ key_at keys t) → ((t s : ℕ) → has_pair t s l.waiting ≡ true → key_at keys' t ≡ key_at keys t) → IsStack (above_ceiling keys ceilings) l → IsStack (above_ceiling keys' ceilings) l
  stack-rekeyed l held waiting k = record {
    stacked = stacked-same l.held held k.stacked;
    blocked = λ t s h. passes-same t l.held (waiting t s h) ∙ k.blocked t s h;
  }

  pub sound-rekeyed : (l : PcpState) → length keys' ≡ length keys → ((t s : ℕ) → has_pair t s l.held ≡ true → key_at keys' t ≡ key_at keys t) → ((t s : ℕ) → has_pair t s l.waiting ≡ true → key_at keys' t ≡ key_at keys t) → IsSound ceilings keys l → IsSound ceilings keys' l
  sound-rekeyed l len held waiting ok = record {
    held_by = λ t s h. user-same t s len (held t s h) (ok.held_by t s h);
    awaited_by = λ t s h. user-same t s len (waiting t s h) (ok.awaited_by t s h);
    one_holder = ok.one_holder;
    waits_once = ok.waits_once;
    unheld = ok.unheld;
  }
