-- FMLP: the requests that wait stand in the line in the order in which they were made.
use Rattle.std.proofs.Common.{Bool, List, [], ap, arith, false, inl, inr, length, refl, sym, true, ℕ, ◌+◌, ◌++◌, ◌<◌, ◌∙◌, ◌∷◌, ◌≡◌, ◌≤◌, ◌⊎◌, ◌||◌}
use Rattle.std.proofs.lemmas.List.Elements.{Contains-push_cases}
use Rattle.std.specs.Prelude.{Contains, if◌then◌else◌, ◌==◌}
use Rattle.rt_task.specs.declared.Protocol.TheVariants.{Fmlp}
use Rattle.rt_rules.specs.Numbers.{first, has, is, rest}
use Rattle.rt_rules.specs.SemState.{Asks, Frees, Neither, SemAct}
use Rattle.rt_model.specs.Blocking.{Asked, asked_by, asks, is_open, newest_request, requests}
use Rattle.rt_model.specs.Group.{Group, protocol, sems, users}
use Rattle.rt_model.specs.Holders.{awaits, sem_state}
use Rattle.rt_model.specs.Past.{Event, Past, entries_in, sem_act}
use Rattle.rt_model.specs.Reachable.{IsReachable}
use Rattle.rt_model.specs.Semaphores.{at_sem, fmlp}
use Rattle.rt_rules.proofs.BoolLaws.{both, clash, or_true, unless}
use Rattle.rt_rules.proofs.FmlpLaws.{IsLine, ahead, ahead-append, ahead-last, ahead-rest}
use Rattle.rt_rules.proofs.MemberLaws.{equal_self, has-append, has-rest, without-first}
use Rattle.rt_laws.specs.InOrder.{GrantedInOrder, LaterRequestsWait}
use Rattle.rt_laws.proofs.fmlp.FmlpState.{fmlp-fresh, fmlp-line, fmlp-sem_state, fmlp-step}
use Rattle.rt_laws.proofs.Moves.{IsMove, by_moves, last_move, moved}
use Rattle.rt_laws.proofs.Next.{IsNext, next}
use Rattle.rt_laws.proofs.omlp.OmlpCount.{at-cases}
use Rattle.rt_laws.proofs.semaphores.OneWait.{WaitsOnce, awaits-is, waits_once}
use Rattle.rt_laws.proofs.semaphores.OpenRequests.{asks-acts, entries-grow, newest-below, open-before, open-waits, waits-open}
use Rattle.rt_laws.proofs.Rules.{MeetsRules}
use Rattle.rt_laws.proofs.ValidSets.{rules_of}

-- ---- places in a line

-- who stands in a line has fewer before it than the line has
pub ahead-inside : (t : ℕ) (xs : List ℕ) → has t xs ≡ true → ahead t xs < length xs
ahead-inside t [] h = cc
ahead-inside t (x ∷ xs) h = by_case (t == x) h (ahead-inside t xs)
  where
    by_case : (b : Bool) → b || has t xs ≡ true → (has t xs ≡ true → ahead t xs < length xs) → (if b then 0 else ahead t xs + 1) < length (x ∷ xs)
    by_case true k r = omega arith
    by_case false k r = omega (arith, r k)

-- who has one before it is not the first
ahead-behind : (t : ℕ) (xs : List ℕ) → has t xs ≡ true → 1 ≤ ahead t xs → has t (rest xs) ≡ true
ahead-behind t [] h k = cc
ahead-behind t (x ∷ xs) h k = by_case (t == x) h k
  where
    by_case : (b : Bool) → b || has t xs ≡ true → 1 ≤ (if b then 0 else ahead t xs + 1) → has t xs ≡ true
    by_case true m n = absurd (omega (arith, n))
    by_case false m n = m

-- ---- requests

-- a request that is made now
abbrev IsNew : Event → Past → Asked → Type 0
IsNew e past b = (sem_act e ≡ Asks b.task b.sem) × (b.no ≡ entries_in past)

-- a request was made before, or is made now
listed-before : (e : Event) (past : Past) (b : Asked) → Contains (requests (e ∷ past)) b → Contains (requests past) b ⊎ IsNew e past b
unfolding requests
listed-before e past b h = by_act (sem_act e) refl h
  where
    by_act : (x : SemAct) → sem_act e ≡ x → Contains (asked_by x (entries_in past) (requests past)) b → Contains (requests past) b ⊎ IsNew e past b
    by_act (Asks u z) k m = split (Contains-push_cases (requests past) (record { no = entries_in past; task = u; sem = z }) b m)
      where
        split : Contains (requests past) b ⊎ (record { no = entries_in past; task = u; sem = z } ≡ b) → Contains (requests past) b ⊎ IsNew e past b
        split (inl n) = inl n
        split (inr n) = inr (k ∙ ap (λ (a : Asked). Asks a.task a.sem) n, sym (ap (λ (a : Asked). a.no) n))
    by_act (Frees u z) k m = inl m
    by_act Neither k m = inl m

-- a request's number is below the number of entries
listed-below : (past : Past) (b : Asked) → Contains (requests past) b → b.no < entries_in past
unfolding requests
listed-below [] b h = absurd (no_element h)
  where
    no_element : Contains {X = Asked} [] b → ⊥
    no_element k = let low = k.1 in omega arith
listed-below (e ∷ past) b h = split (listed-before e past b h) (listed-below past b)
  where
    split : Contains (requests past) b ⊎ IsNew e past b → (Contains (requests past) b → b.no < entries_in past) → b.no < entries_in (e ∷ past)
    split (inl k) low = omega (arith, low k, entries-grow e past)
    split (inr k) low = let a : asks b.task (sem_act e) ≡ true = rw k.0 (equal_self b.task) in let one_more : entries_in (e ∷ past) ≡ entries_in past + 1 = rw (asks-acts b.task e a) refl in omega (arith, k.1, one_more)

-- ---- one semaphore

module _ (g : Group) (rules : MeetsRules g) (s : ℕ) (p : protocol g s ≡ Fmlp) where
  -- who has an open request stands in the line, and not first
  open-stands : (r t : ℕ) (past : Past) → is_open g r t s past ≡ true → (has s (sems g) ≡ true) × (has t (rest (fmlp g s past)) ≡ true)
  open-stands r t past o = let w = open-waits g r t s past o in (w.0, rw (fmlp-sem_state g s past p).0 at w.1)

  -- who still stands there keeps its open request
  stands-open : (q u : ℕ) (e : Event) (past : Past) → IsReachable g (e ∷ past) → IsNext g e past → is_open g q u s past ≡ true → has u (rest (fmlp g s (e ∷ past))) ≡ true → is_open g q u s (e ∷ past) ≡ true
  stands-open q u e past made follows o h = waits-open g q u s e past (waits_once g rules made) follows o (rw (fmlp-sem_state g s (e ∷ past) p).0 h)

  freed-line : (v : ℕ) (e : Event) (past : Past) → IsNext g e past → sem_act e ≡ Frees v s → fmlp g s (e ∷ past) ≡ rest (fmlp g s past)
  freed-line v e past follows f =
      let holds_it : is v (first (fmlp g s past)) ≡ true = rw (fmlp-sem_state g s past p).1 at (follows.freed v s f) in
      fmlp-step g s e past ∙ rw (f, equal_self s) (without-first v (fmlp g s past) holds_it)

  asked-line : (v : ℕ) (e : Event) (past : Past) → sem_act e ≡ Asks v s → fmlp g s (e ∷ past) ≡ fmlp g s past ++ v ∷ []
  asked-line v e past a = fmlp-step g s e past ∙ rw (a, equal_self s) refl

  same-line : (e : Event) (past : Past) → at_sem s (sem_act e) ≡ Neither → fmlp g s (e ∷ past) ≡ fmlp g s past
  same-line e past n = fmlp-step g s e past ∙ rw n refl

  rest-append : (t v : ℕ) (xs : List ℕ) → has t (rest xs) ≡ true → has t (rest (xs ++ v ∷ [])) ≡ true
  rest-append t v [] h = cc
  rest-append t v (x ∷ xs) h = let k : has t (xs ++ v ∷ []) ≡ true = rw (has-append, h) refl in k

  -- with two before it a request stays open, whatever happens
  stays : (q u : ℕ) (e : Event) (past : Past) → IsReachable g (e ∷ past) → IsNext g e past → IsLine (users g s) (fmlp g s past) → is_open g q u s past ≡ true → 2 ≤ ahead u (fmlp g s past) → is_open g q u s (e ∷ past) ≡ true
  stays q u e past made follows line o two = stands-open q u e past made follows o (split (at-cases s (sem_act e)))
    where
      stood : has u (rest (fmlp g s past)) ≡ true
      stood = (open-stands q u past o).1

      split : (at_sem s (sem_act e) ≡ Neither) ⊎ (((v : ℕ) × (sem_act e ≡ Asks v s)) ⊎ ((v : ℕ) × (sem_act e ≡ Frees v s))) → has u (rest (fmlp g s (e ∷ past))) ≡ true
      split (inl n) = rw (same-line e past n) stood
      split (inr (inl v)) = rw (asked-line v.0 e past v.1) (rest-append u v.0 (fmlp g s past) stood)
      split (inr (inr v)) = rw (freed-line v.0 e past follows v.1) (ahead-behind u (rest (fmlp g s past)) stood (omega (arith, two, ahead-rest u (fmlp g s past) line.once stood)))

  open-below : (q u : ℕ) (past : Past) → is_open g q u s past ≡ true → q < entries_in past
  unfolding is_open
  open-below q u past o = newest-below u q past (both (is s (awaits g u past)) (is q (newest_request u past)) o).1

  -- requests that wait stand in the order in which they were made
  abbrev InLine : Past → Type 0
  InLine past = (r t q u : ℕ) → r < q → is_open g r t s past ≡ true → is_open g q u s past ≡ true → ahead t (fmlp g s past) < ahead u (fmlp g s past)

  in_line-step : (e : Event) (past : Past) → IsReachable g past → IsNext g e past → InLine past → InLine (e ∷ past)
  in_line-step e past made follows before r t q u low open_r open_q = split (open-before g rules r t s e past once follows open_r) (open-before g rules q u s e past once follows open_q)
    where
      once : WaitsOnce g past
      once = waits_once g rules made

      line : IsLine (users g s) (fmlp g s past)
      line = fmlp-line g rules s p made

      old : is_open g r t s past ≡ true → is_open g q u s past ≡ true → (at_sem s (sem_act e) ≡ Neither) ⊎ (((v : ℕ) × (sem_act e ≡ Asks v s)) ⊎ ((v : ℕ) × (sem_act e ≡ Frees v s))) → ahead t (fmlp g s (e ∷ past)) < ahead u (fmlp g s (e ∷ past))
      old a b (inl n) = rw (same-line e past n) (before r t q u low a b)
      old a b (inr (inl v)) = rw (asked-line v.0 e past v.1, ahead-append t (fmlp g s past) (v.0 ∷ []) (has-rest t (fmlp g s past) (open-stands r t past a).1), ahead-append u (fmlp g s past) (v.0 ∷ []) (has-rest u (fmlp g s past) (open-stands q u past b).1)) (before r t q u low a b)
      old a b (inr (inr v)) =
          rw (freed-line v.0 e past follows v.1)
          (omega (arith, before r t q u low a b, ahead-rest t (fmlp g s past) line.once (open-stands r t past a).1, ahead-rest u (fmlp g s past) line.once (open-stands q u past b).1))

      new : is_open g r t s past ≡ true → sem_act e ≡ Asks u s → ahead t (fmlp g s (e ∷ past)) < ahead u (fmlp g s (e ∷ past))
      new a k =
          let there : has t (fmlp g s past) ≡ true = has-rest t (fmlp g s past) (open-stands r t past a).1 in
          rw (asked-line u e past k, ahead-append t (fmlp g s past) (u ∷ []) there, ahead-last u (fmlp g s past) (fmlp-fresh g s u past p (follows.asked u s k)))
          (ahead-inside t (fmlp g s past) there)

      split : (is_open g r t s past ≡ true) ⊎ (sem_act e ≡ Asks t s) × (r ≡ entries_in past) → (is_open g q u s past ≡ true) ⊎ (sem_act e ≡ Asks u s) × (q ≡ entries_in past) → ahead t (fmlp g s (e ∷ past)) < ahead u (fmlp g s (e ∷ past))
      split (inl a) (inl b) = old a b (at-cases s (sem_act e))
      split (inl a) (inr b) = new a b.0
      split (inr a) (inl b) = let q_low : q < entries_in past = open-below q u past b in absurd (omega (arith, low, a.1, q_low))
      split (inr a) (inr b) = absurd (omega (arith, low, a.1, b.1))

  in_line : {past : Past} → IsReachable g past → InLine past
  in_line made = by_moves g InLine (λ r t q u low a b. let none : q < 0 = open-below q u [] b in absurd (omega (arith, none))) (λ past e made move before. in_line-step e past made (next g rules made move) before) made

  -- who waits for it has one before it
  one_ahead : (r t : ℕ) (past : Past) → IsLine (users g s) (fmlp g s past) → is_open g r t s past ≡ true → 1 ≤ ahead t (fmlp g s past)
  one_ahead r t past line o = omega (arith, ahead-rest t (fmlp g s past) line.once (open-stands r t past o).1)

  -- a request that waits behind an earlier one stays open
  behind-stays : (r t q u : ℕ) {e : Event} {past : Past} → IsReachable g past → IsMove g past e → r < q → is_open g r t s past ≡ true → is_open g q u s past ≡ true → is_open g q u s (e ∷ past) ≡ true
  behind-stays r t q u {e} {past} made move low a b = let line = fmlp-line g rules s p made in stays q u e past (moved g made move) (next g rules made move) line b (omega (arith, one_ahead r t past line a, in_line made r t q u low a b))

  -- ---- while a request waits, so do the later ones

  abbrev LaterWait : Past → Type 0
  LaterWait past = (r t : ℕ) (b : Asked) → b.sem ≡ s → r < b.no → Contains (requests past) b → is_open g r t s past ≡ true → is_open g b.no b.task s past ≡ true

  later-step : (e : Event) (past : Past) → IsReachable g past → IsMove g past e → LaterWait past → LaterWait (e ∷ past)
  unfolding is_open newest_request
  later-step e past made move before r t b same low listed o = split (open-before g rules r t s e past (waits_once g rules made) follows o) (listed-before e past b listed)
    where
      follows : IsNext g e past
      follows = next g rules made move

      -- it asks now, and the line is not empty
      queued : is_open g r t s past ≡ true → sem_act e ≡ Asks b.task s → b.no ≡ entries_in past → is_open g b.no b.task s (e ∷ past) ≡ true
      queued a k n = open_now
        where
          not_empty : (xs : List ℕ) → has t (rest xs) ≡ true → has b.task (rest (xs ++ b.task ∷ [])) ≡ true
          not_empty [] h = cc
          not_empty (x ∷ xs) h = let m : has b.task (xs ++ b.task ∷ []) ≡ true = rw (has-append, equal_self b.task) (or_true (has b.task xs)) in m

          w : (has s (sems g) ≡ true) × (has t (rest (fmlp g s past)) ≡ true)
          w = open-stands r t past a

          stands : has b.task (sem_state g s (e ∷ past)).waiting ≡ true
          stands = rw ((fmlp-sem_state g s (e ∷ past) p).0, asked-line b.task e past k) (not_empty (fmlp g s past) w.1)

          open_now : is_open g b.no b.task s (e ∷ past) ≡ true
          open_now = rw (awaits-is g b.task s (e ∷ past) (waits_once g rules (moved g made move)) w.0 stands, equal_self s, k, equal_self b.task, n) (equal_self (entries_in past))

      split : (is_open g r t s past ≡ true) ⊎ (sem_act e ≡ Asks t s) × (r ≡ entries_in past) → Contains (requests past) b ⊎ IsNew e past b → is_open g b.no b.task s (e ∷ past) ≡ true
      split (inl a) (inl k) = behind-stays r t b.no b.task made move low a (before r t b same low k a)
      split (inl a) (inr k) = queued a (rw same at k.0) k.1
      split (inr a) (inl k) = absurd (omega (arith, low, a.1, listed-below past b k))
      split (inr a) (inr k) = absurd (omega (arith, low, a.1, k.1))

  later : {past : Past} → IsReachable g past → LaterWait past
  later made = by_moves g LaterWait (λ r t b same low listed o. let none : r < 0 = open-below r t [] o in absurd (omega (arith, none))) (λ past e before_made move before. later-step e past before_made move before) made

pub later_requests_wait : LaterRequestsWait
later_requests_wait g past valid made a b k listed o = rw k.same_sem (later g (rules_of g valid) a.sem k.is_fmlp made a.no a.task b k.same_sem k.before listed o)

pub granted_in_order : GrantedInOrder
granted_in_order g e past valid made a b k waits_b shut = unless _ (λ o. let parts = last_move g made in clash _ (behind-stays g (rules_of g valid) a.sem k.is_fmlp a.no a.task b.no b.task parts.0 parts.1 k.before o (rw k.same_sem at waits_b)) (rw k.same_sem at shut))
