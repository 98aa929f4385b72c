-- A reservation stays as it is where none of its clients is touched and it is not refilled.
use Rattle.std.proofs.Common.{◌≡◌, ℕ, ◌+◌, ◌≤◌, Bool, true, false, ◌&&◌, ◌||◌, cond, List, [], ◌∷◌, refl, sym, ap, ◌∙◌, arith}
use Rattle.std.specs.Prelude.{◌==◌, Option, None, Some, filter, find, count_by}
use Rattle.std.specs.List.{list_any, list_all}
use Rattle.std.proofs.lemmas.Bool.Decides.{nat_tests}
use Rattle.std.proofs.lemmas.List.Sums.{sum_by-cons}
use Rattle.rt_task.specs.declared.ResvKind.{ResvKind}
use Rattle.rt_task.specs.declared.ResvKind.TheVariants.{Polling, Sporadic, Table}
use Rattle.rt_rules.specs.Numbers.{foremost, has}
use Rattle.rt_rules.specs.Slots.{left_in, slot_at}
use Rattle.rt_rules.proofs.BoolLaws.{both, or_true}
use Rattle.rt_rules.proofs.MemberLaws.{equal_self, has-filter}
use Rattle.rt_model.specs.Group.{Group, clients, resv}
use Rattle.rt_model.specs.Outcomes.{past_act}
use Rattle.rt_model.specs.Past.{PastAct, Event, Clock, Acted, Past, now, did, is_work}
use Rattle.rt_model.specs.Releases.{ready, release}
use Rattle.rt_model.specs.Reservations.{any_ready, begins_period, earlier, first_refill, front, is_due, is_loss, is_lost, is_refill, left, left_by, refilled, slot_now, spent, works_for}
use Rattle.rt_task.specs.Validity.{IsValid}
use Rattle.rt_changes.specs.Served.{SameReservation, ReservationsAfterAct, ReservationsAfterClock}
use Rattle.rt_changes.specs.Touched.{SameFacts}
use Rattle.rt_laws.proofs.ValidSets.{rules_of}
use Rattle.rt_changes.proofs.rankings.TouchedTasks.{IsNone, touched-none, clock-none, facts-none, clock_keeps_jobs, clock_touches_due}

-- what the clients of a reservation have the same in an event: they do nothing, and are ready as before by the same releases
record IsQuiet (g : Group) (t : ℕ) (e : Event) (past : Past) : Type 0 where
  none : IsNone t e past
  ready_same : ready g t (e ∷ past) ≡ ready g t past
  release_same : release g t (e ∷ past) ≡ release g t past

abbrev AllQuiet : Group → List ℕ → Event → Past → Type 0
AllQuiet g ts e past = (t : ℕ) → has t ts ≡ true → IsQuiet g t e past

later : (g : Group) (u : ℕ) (ts : List ℕ) (e : Event) (past : Past) → AllQuiet g (u ∷ ts) e past → AllQuiet g ts e past
later g u ts e past quiet t h = quiet t (rw h (or_true (t == u)))

-- ---- lists of clients

any-same : (g : Group) (e : Event) (past : Past) (ts : List ℕ) → AllQuiet g ts e past → list_any (λ t. ready g t (e ∷ past)) ts ≡ list_any (λ t. ready g t past) ts
any-same g e past [] quiet = refl
any-same g e past (t ∷ ts) quiet = rw ((quiet t (rw (equal_self t))).ready_same, any-same g e past ts (later g t ts e past quiet))

filter-same : (p p' : ℕ → Bool) (ts : List ℕ) → ((t : ℕ) → has t ts ≡ true → p' t ≡ p t) → filter p' ts ≡ filter p ts
filter-same p p' [] same = refl
filter-same p p' (t ∷ ts) same = rw (same t (rw (equal_self t)), filter-same p p' ts (λ u h. same u (rw h (or_true (u == t)))))

works-none : (g : Group) (e : Event) (past : Past) (ts : List ℕ) → AllQuiet g ts e past → count_by (λ t. is_work (did t e)) ts ≡ 0
works-none g e past [] quiet = refl
works-none g e past (t ∷ ts) quiet =
    let c : count_by (λ u. is_work (did u e)) (t ∷ ts) ≡ cond (is_work (did t e)) 1 0 + count_by (λ u. is_work (did u e)) ts = sum_by-cons (λ u. cond (is_work (did u e)) 1 0) t ts in
    c ∙ rw ((quiet t (rw (equal_self t))).none.did_none, works-none g e past ts (later g t ts e past quiet))

any_ready-same : (g : Group) (r : ℕ) (e : Event) (past : Past) → AllQuiet g (clients g r) e past → any_ready g r (e ∷ past) ≡ any_ready g r past
unfolding any_ready
any_ready-same g r e past quiet = any-same g e past (clients g r) quiet

works_for-none : (g : Group) (r : ℕ) (e : Event) (past : Past) → AllQuiet g (clients g r) e past → works_for g r e ≡ 0
unfolding works_for
works_for-none g r e past quiet = works-none g e past (clients g r) quiet

-- ---- the front client

-- the order of clients depends on their releases
foremost-same : (before before' : ℕ → ℕ → Bool) (xs : List ℕ) → ((x y : ℕ) → has x xs ≡ true → has y xs ≡ true → before' x y ≡ before x y) → foremost before' xs ≡ foremost before xs
foremost-same before before' xs same = find-same _ _ xs (λ x h. all-same (λ y. x == y || before x y) (λ y. x == y || before' x y) xs (λ y k. rw (same x y h k)))
  where
    find-same : (p p' : ℕ → Bool) (ys : List ℕ) → ((y : ℕ) → has y ys ≡ true → p' y ≡ p y) → find p' ys ≡ find p ys
    find-same p p' [] s = refl
    find-same p p' (y ∷ ys) s = rw (s y (rw (equal_self y)), find-same p p' ys (λ z h. s z (rw h (or_true (z == y)))))

    all-same : (p p' : ℕ → Bool) (ys : List ℕ) → ((y : ℕ) → has y ys ≡ true → p' y ≡ p y) → list_all p' ys ≡ list_all p ys
    all-same p p' [] s = refl
    all-same p p' (y ∷ ys) s = rw (s y (rw (equal_self y)), all-same p p' ys (λ z h. s z (rw h (or_true (z == y)))))

earlier-same : (g : Group) (t u : ℕ) (past past' : Past) → release g t past' ≡ release g t past → release g u past' ≡ release g u past → earlier g past' t u ≡ earlier g past t u
unfolding earlier
earlier-same g t u past past' h k = rw (h, k)

front-same : (g : Group) (r : ℕ) (e : Event) (past : Past) → AllQuiet g (clients g r) e past → front g r (e ∷ past) ≡ front g r past
unfolding front
front-same g r e past quiet =
    ap (foremost (earlier g (e ∷ past))) (filter-same (λ t. ready g t past) (λ t. ready g t (e ∷ past)) (clients g r) (λ t h. (quiet t h).ready_same))
    ∙ foremost-same (earlier g past) (earlier g (e ∷ past)) (filter (λ t. ready g t past) (clients g r)) (λ t u h k. earlier-same g t u past (e ∷ past) (quiet t (member t h)).release_same (quiet u (member u k)).release_same)
  where
    member : (t : ℕ) → has t (filter (λ u. ready g u past) (clients g r)) ≡ true → has t (clients g r) ≡ true
    member t h = (both _ _ (rw has-filter at h)).0

-- ---- the budget

-- where no client of a polling reservation is ready what is left is lost already
lost-already : (g : Group) (r : ℕ) (past : Past) → is_loss g (resv g r).kind r past ≡ true → is_lost g r past ≡ true
unfolding is_lost
lost-already g r [] h = h
lost-already g r (e ∷ past) h = rw h

is_loss-same : (g : Group) (k : ResvKind) (r : ℕ) (past past' : Past) → any_ready g r past' ≡ any_ready g r past → is_loss g k r past' ≡ is_loss g k r past
unfolding is_loss
is_loss-same g Polling r past past' h = rw h
is_loss-same g Sporadic r past past' h = refl
is_loss-same g Table r past past' h = refl

lost-same : (g : Group) (r : ℕ) (e : Event) (past : Past) → any_ready g r (e ∷ past) ≡ any_ready g r past → is_refill g (resv g r).kind r e past (refilled g r past) ≡ false → is_lost g r (e ∷ past) ≡ is_lost g r past
unfolding is_lost
lost-same g r e past same none = rw (none, is_loss-same g (resv g r).kind r past (e ∷ past) same) (by_case (is_loss g (resv g r).kind r past) refl)
  where
    by_case : (b : Bool) → is_loss g (resv g r).kind r past ≡ b → b || is_lost g r past ≡ is_lost g r past
    by_case true k = sym (lost-already g r past k)
    by_case false k = refl

refilled-same : (g : Group) (r : ℕ) (e : Event) (past : Past) → is_refill g (resv g r).kind r e past (refilled g r past) ≡ false → refilled g r (e ∷ past) ≡ refilled g r past
unfolding refilled
refilled-same g r e past none = rw none

spent-same : (g : Group) (r : ℕ) (e : Event) (past : Past) → works_for g r e ≡ 0 → is_refill g (resv g r).kind r e past (refilled g r past) ≡ false → spent g r (e ∷ past) ≡ spent g r past
unfolding spent
spent-same g r e past idle none = rw (none, idle) (omega arith)

reservation-same : (g : Group) (r : ℕ) (e : Event) (past : Past) → AllQuiet g (clients g r) e past → is_refill g (resv g r).kind r e past (refilled g r past) ≡ false → ((resv g r).kind ≡ Table → now (e ∷ past) ≡ now past) → SameReservation g r past (e ∷ past)
unfolding left left_by slot_now
reservation-same g r e past quiet none slot =
    let same : any_ready g r (e ∷ past) ≡ any_ready g r past = any_ready-same g r e past quiet in
    record {
      front_same = front-same g r e past quiet;
      left_same = by_kind (resv g r).kind refl same;
      refilled_same = refilled-same g r e past none;
    }
  where
    by_kind : (k : ResvKind) → (resv g r).kind ≡ k → any_ready g r (e ∷ past) ≡ any_ready g r past → left_by g k r (e ∷ past) ≡ left_by g k r past
    by_kind Polling is same = rw (refilled-same g r e past none, lost-same g r e past same none, spent-same g r e past (works_for-none g r e past quiet) none)
    by_kind Sporadic is same = rw (refilled-same g r e past none, lost-same g r e past same none, spent-same g r e past (works_for-none g r e past quiet) none)
    by_kind Table is same = ap (λ n. left_in (resv g r).period n (slot_at (resv g r).period (resv g r).slots n)) (slot is)

-- ---- the clock

pub reservations_after_clock : ReservationsAfterClock
reservations_after_clock g past valid made tick r still none slot = reservation-same g r (Clock tick) past (λ t h. record { none = clock-none tick t past; ready_same = (clock_touches_due g past valid made tick t (still t h)).ready_same; release_same = (clock_keeps_jobs g past valid made tick t).release_same }) none slot

-- ---- an act

-- a sporadic reservation is not due as soon as a move is over
abbrev IsRefilled : Group → ℕ → Past → Type 0
IsRefilled g r past = any_ready g r past && is_due g (now past) (resv g r).period (refilled g r past) ≡ false

not_due : (g : Group) (clock period : ℕ) → 1 ≤ period → is_due g clock period (Some clock) ≡ false
unfolding is_due
not_due g clock period h = grind (arith, nat_tests, h)

at-opening : (g : Group) (r : ℕ) → 1 ≤ (resv g r).period → (resv g r).kind ≡ Sporadic → IsRefilled g r []
unfolding refilled first_refill
at-opening g r period sporadic = rw sporadic (by_case (any_ready g r []))
  where
    by_case : (b : Bool) → b && is_due g 0 (resv g r).period (cond b (Some 0) None) ≡ false
    by_case true = not_due g 0 (resv g r).period period
    by_case false = refl

refill-is : (g : Group) (r : ℕ) (e : Event) (past : Past) (o : Option ℕ) → (resv g r).kind ≡ Sporadic → is_refill g (resv g r).kind r e past o ≡ any_ready g r (e ∷ past) && is_due g (now (e ∷ past)) (resv g r).period o
unfolding is_refill
refill-is g r e past o sporadic = rw sporadic

after-move : (g : Group) (r : ℕ) → 1 ≤ (resv g r).period → (resv g r).kind ≡ Sporadic → (e : Event) (past : Past) → IsRefilled g r (e ∷ past)
unfolding refilled
after-move g r period sporadic e past = by_case (is_refill g (resv g r).kind r e past (refilled g r past)) refl
  where
    by_case : (b : Bool) → is_refill g (resv g r).kind r e past (refilled g r past) ≡ b → any_ready g r (e ∷ past) && is_due g (now (e ∷ past)) (resv g r).period (cond b (Some (now (e ∷ past))) (refilled g r past)) ≡ false
    by_case true k = rw not_due (no (any_ready g r (e ∷ past)))
      where
        no : (a : Bool) → a && false ≡ false
        no true = refl
        no false = refl
    by_case false k = sym (refill-is g r e past (refilled g r past) sporadic) ∙ k

is-refilled : (g : Group) → IsValid g.setup → (r : ℕ) → (resv g r).kind ≡ Sporadic → (past : Past) → IsRefilled g r past
is-refilled g valid r sporadic [] = at-opening g r ((rules_of g valid).has_period r sporadic) sporadic
is-refilled g valid r sporadic (e ∷ past) = after-move g r ((rules_of g valid).has_period r sporadic) sporadic e past

-- an act that leaves whether a client is ready refills nothing
no-refill : (g : Group) → IsValid g.setup → (r : ℕ) (d : PastAct) (past : Past) → any_ready g r (Acted d ∷ past) ≡ any_ready g r past → is_refill g (resv g r).kind r (Acted d) past (refilled g r past) ≡ false
unfolding is_refill begins_period
no-refill g valid r d past same = by_kind (resv g r).kind refl
  where
    by_kind : (k : ResvKind) → (resv g r).kind ≡ k → is_refill g k r (Acted d) past (refilled g r past) ≡ false
    by_kind Polling e = refl
    by_kind Sporadic e = rw same (is-refilled g valid r e past)
    by_kind Table e = refl

pub reservations_after_act : ReservationsAfterAct
reservations_after_act g past valid made q act r untouched = reservation-same g r (Acted (past_act g q act past)) past quiet (no-refill g valid r (past_act g q act past) past (any_ready-same g r (Acted (past_act g q act past)) past quiet)) (λ is. refl)
  where
    quiet : AllQuiet g (clients g r) (Acted (past_act g q act past)) past
    quiet t h =
        let n : IsNone t (Acted (past_act g q act past)) past = touched-none g q act past t (untouched t h) in
        let f : SameFacts g t past (Acted (past_act g q act past) ∷ past) = facts-none g t (past_act g q act past) past n in
        record { none = n; ready_same = f.same_ready.ready_same; release_same = f.same_job.release_same }
