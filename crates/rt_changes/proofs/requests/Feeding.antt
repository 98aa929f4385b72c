-- One more event makes of the list of requests what the longer past has.
use Rattle.std.proofs.Common.{Bool, List, [], ap, arith, eqb-true, false, map, refl, sym, true, ℕ, ◌&&◌, ◌++◌, ◌+◌, ◌∙◌, ◌∷◌, ◌≡◌, ◌≤◌, ◌<◌}
use Rattle.std.proofs.lemmas.List.{map-append}
use Rattle.std.proofs.lemmas.Simd.{map-map}
use Rattle.std.specs.Prelude.{None, Option, Some, if◌then◌else◌, ◌==◌}
use Rattle.rt_rules.specs.Numbers.{is}
use Rattle.rt_rules.specs.SemState.{Asks, Frees, Neither, SemAct}
use Rattle.rt_model.specs.Blocking.{Asked, asks, asked_by, bound, ends, ends_all, frees, is_blocked, is_open, newest_request, requests}
use Rattle.rt_model.specs.Group.{Group}
use Rattle.rt_model.specs.Holders.{awaits}
use Rattle.rt_model.specs.Past.{Event, Past, entries_in, sem_act}
use Rattle.rt_rules.proofs.BoolLaws.{both, unless}
use Rattle.rt_laws.proofs.semaphores.OpenRequests.{entries-grow, newest-below}
use Rattle.rt_changes.specs.Tallies.{AreWaiters, Tally, Waiter, counted_at, fed, newest_from, newest_of, seen_by, tallies, tally}

map-alike : {A B : Type 0} (f h : A → B) (xs : List A) → ((x : A) → f x ≡ h x) → map f xs ≡ map h xs
map-alike f h [] same = refl
map-alike f h (x ∷ xs) same = rw (same x, map-alike f h xs same)

-- nothing ended before the request was asked
shut-before : (g : Group) (r t s : ℕ) (past : Past) → entries_in past ≤ r → is_open g r t s past ≡ false
unfolding is_open
shut-before g r t s past h = unless _ (λ k. let n : r < entries_in past = newest-below t r past (both (is s (awaits g t past)) (is r (newest_request t past)) k).1 in absurd (omega (arith, h, n)))

pub none_all : (g : Group) (r t s : ℕ) (past : Past) → entries_in past ≤ r → ends_all g r t s past ≡ 0
unfolding ends_all
none_all g r t s [] h = refl
none_all g r t s (e ∷ past) h = rw (shut-before g r t s past (omega (arith, h, entries-grow e past))) (by_case (frees s (sem_act e)) (none_all g r t s past (omega (arith, h, entries-grow e past))))
  where
    by_case : (b : Bool) → ends_all g r t s past ≡ 0 → (if b && false then ends_all g r t s past + 1 else ends_all g r t s past) ≡ 0
    by_case true k = k
    by_case false k = k

pub none_blocked : (g : Group) (r t s : ℕ) (past : Past) → entries_in past ≤ r → ends g r t s past ≡ 0
unfolding ends
none_blocked g r t s [] h = refl
none_blocked g r t s (e ∷ past) h = rw (shut-before g r t s past (omega (arith, h, entries-grow e past))) (by_case (frees s (sem_act e)) (none_blocked g r t s past (omega (arith, h, entries-grow e past))))
  where
    by_case : (b : Bool) → ends g r t s past ≡ 0 → (if b && false then ends g r t s past + 1 else ends g r t s past) ≡ 0
    by_case true k = k
    by_case false k = k

-- the newest request of a list with one more
pub newest-push : (t : ℕ) (xs : List Tally) (o : Option ℕ) (x : Tally) → newest_from t o (xs ++ x ∷ []) ≡ (if t == x.task then Some x.no else newest_from t o xs)
newest-push t [] o x = refl
newest-push t (y ∷ xs) o x = newest-push t xs (if t == y.task then Some y.no else o) x

-- the newest request in the list of a past, whatever else is said of each
pub newest-is : (g : Group) (now past : Past) (t : ℕ) → newest_of t (map (tally g now) (requests past)) ≡ newest_request t past
unfolding newest_request requests
newest-is g now [] t = refl
newest-is g now (e ∷ past) t = by_act (sem_act e) (newest-is g now past t)
  where
    by_act : (x : SemAct) → newest_of t (map (tally g now) (requests past)) ≡ newest_request t past → newest_of t (map (tally g now) (asked_by x (entries_in past) (requests past))) ≡ (if asks t x then Some (entries_in past) else newest_request t past)
    by_act (Asks u s) k = ap (newest_of t) (map-append (tally g now) (requests past) (record { no = entries_in past; task = u; sem = s } ∷ [])) ∙ newest-push t (map (tally g now) (requests past)) None _ ∙ ap (λ o. if t == u then Some (entries_in past) else o) k
    by_act (Frees u s) k = k
    by_act Neither k = k

-- an event that frees nothing leaves each count
same-tally : (g : Group) (e : Event) (past : Past) → ((s : ℕ) → frees s (sem_act e) ≡ false) → (r : Asked) → tally g (e ∷ past) r ≡ tally g past r
unfolding ends ends_all
same-tally g e past none r = rw (none r.sem) refl

-- an event that frees a semaphore
freed-tally : (g : Group) (u s : ℕ) (e : Event) (past : Past) (ws : List Waiter) → sem_act e ≡ Frees u s → AreWaiters g s past ws → (r : Asked) → counted_at s ws (tallies g past) (tally g past r) ≡ tally g (e ∷ past) r
unfolding ends ends_all is_open
freed-tally g u s e past ws act wait r = rw (act, newest-is g past past r.task, wait r.task) (by_sem (r.sem == s) refl)
  where
    cases : (w n b : Bool) (x : Tally) → (if n then seen_by (if w then Some b else None) x else x) ≡ record x { ends = if (w && n) && b then x.ends + 1 else x.ends; ends_all = if w && n then x.ends_all + 1 else x.ends_all }
    cases true true b x = refl
    cases true false b x = refl
    cases false true b x = refl
    cases false false b x = refl

    by_sem : (a : Bool) → r.sem == s ≡ a → (if a && is r.no (newest_request r.task past) then seen_by (if is s (awaits g r.task past) then Some (is_blocked g r.task past) else None) (tally g past r) else tally g past r) ≡ record (tally g past r) { ends = if a && ((is r.sem (awaits g r.task past) && is r.no (newest_request r.task past)) && is_blocked g r.task past) then ends g r.no r.task r.sem past + 1 else ends g r.no r.task r.sem past; ends_all = if a && (is r.sem (awaits g r.task past) && is r.no (newest_request r.task past)) then ends_all g r.no r.task r.sem past + 1 else ends_all g r.no r.task r.sem past }
    by_sem false k = refl
    by_sem true k = let same : r.sem ≡ s = eqb-true r.sem s k in let waits : is r.sem (awaits g r.task past) ≡ is s (awaits g r.task past) = ap (λ z. is z (awaits g r.task past)) same in rw waits (cases (is s (awaits g r.task past)) (is r.no (newest_request r.task past)) (is_blocked g r.task past) (tally g past r))

-- so one event makes of the list what the longer past has
pub event-feeds : (g : Group) (e : Event) (past : Past) (ws : List Waiter) → ((t s : ℕ) → sem_act e ≡ Frees t s → AreWaiters g s past ws) → tallies g (e ∷ past) ≡ fed (bound g) (entries_in past) (sem_act e) ws (tallies g past)
unfolding requests
event-feeds g e past ws wait = by_act (sem_act e) refl
  where
    new : (t s : ℕ) → sem_act e ≡ Asks t s → tally g (e ∷ past) (record { no = entries_in past; task = t; sem = s }) ≡ record { no = entries_in past; task = t; sem = s; ends = 0; ends_all = 0; bound = bound g t s }
    new t s k = same-tally g e past (λ z. rw k refl) _ ∙ rw (none_all g (entries_in past) t s past (omega arith), none_blocked g (entries_in past) t s past (omega arith)) refl

    by_act : (x : SemAct) → sem_act e ≡ x → map (tally g (e ∷ past)) (asked_by x (entries_in past) (requests past)) ≡ fed (bound g) (entries_in past) x ws (tallies g past)
    by_act (Asks t s) k =
        map-append (tally g (e ∷ past)) (requests past) (record { no = entries_in past; task = t; sem = s } ∷ []) ∙ rw (new t s k, map-alike (tally g (e ∷ past)) (tally g past) (requests past) (same-tally g e past (λ z. rw k refl))) refl
    by_act (Frees t s) k = map-alike _ _ (requests past) (λ r. sym (freed-tally g t s e past ws k (wait t s k) r)) ∙ sym (map-map (counted_at s ws (tallies g past)) (tally g past) (requests past))
    by_act Neither k = map-alike _ _ (requests past) (same-tally g e past (λ z. rw k refl))
