-- Which requests are open, and which ends they see.
use Rattle.std.proofs.Common.{[], ap, arith, eqb-true, false, inl, inr, refl, sym, true, ℕ, ◌&&◌, ◌∙◌, ◌∷◌, ◌≡◌, ◌≢◌, ◌⊎◌}
use Rattle.std.proofs.lemmas.List.Elements.{Contains-append_left, Contains-append_right}
use Rattle.std.specs.Prelude.{Contains, Some, if◌then◌else◌}
use Rattle.rt_rules.specs.Numbers.{has, is}
use Rattle.rt_rules.specs.SemState.{Asks, Frees, Neither, SemAct}
use Rattle.rt_model.specs.Answers.{is_granted}
use Rattle.rt_model.specs.Blocking.{asks, asked_by, ends, ends_all, frees, is_open, newest_request, requests}
use Rattle.rt_model.specs.Group.{Group, protocol, sems}
use Rattle.rt_model.specs.Holders.{awaits, holder, sem_state}
use Rattle.rt_model.specs.Reachable.{IsReachable}
use Rattle.rt_model.specs.Past.{Event, Past, entries_in, sem_act}
use Rattle.rt_model.specs.Semaphores.{cluster_of}
use Rattle.rt_rules.proofs.BoolLaws.{both, clash, unless}
use Rattle.rt_rules.proofs.MemberLaws.{equal_self, is-some, some-is}
use Rattle.rt_laws.proofs.semaphores.Asked.{freed}
use Rattle.rt_laws.proofs.jobs.Engaged.{engaged, engaged-cases, waiting-engaged}
use Rattle.rt_laws.proofs.srp.SrpState.{kept}
use Rattle.rt_laws.proofs.Moves.{IsMove, by_moves, clock_moves, cpu_acts, last_move, moved}
use Rattle.rt_laws.proofs.Next.{IsNext, next}
use Rattle.rt_laws.proofs.semaphores.OneWait.{awaits-is, waits_once}
use Rattle.rt_laws.proofs.semaphores.OpenRequests.{open-before, open-waits}
use Rattle.rt_laws.proofs.semaphores.Requests.{IsFree}
use Rattle.rt_laws.proofs.semaphores.Requests as requests_of
use Rattle.rt_laws.proofs.Rules.{MeetsRules}
use Rattle.rt_laws.proofs.jobs.Running.{IsRunning, running}
use Rattle.rt_laws.proofs.ValidSets.{rules_of}
use Rattle.rt_laws.proofs.semaphores.Waiting.{awaits-waits, nobody-waits, waiting-step}
use Rattle.rt_changes.proofs.Apart.{apart}
use Rattle.rt_changes.proofs.Stays.{engaged-stays}
use Rattle.rt_changes.specs.OpenLaws.{ClosedStaysClosed, ClosesByGrant, CountsItsOwn, CountsOthers, HolderHasNone, OpenIsNewest, WaitingHasOpen}
use Rattle.rt_changes.proofs.requests.Feeding.{newest-is}

-- a task's newest request, where it is one for this semaphore
record AskedLast (t s : ℕ) (past : Past) : Type 0 where
  no : ℕ
  newest : newest_request t past ≡ Some no
  listed : Contains (requests past) (record { no = no; task = t; sem = s })

asked_last-asks : (t s : ℕ) (e : Event) (past : Past) → sem_act e ≡ Asks t s → AskedLast t s (e ∷ past)
unfolding newest_request requests
asked_last-asks t s e past a = record { no = entries_in past; newest = rw (a, equal_self t) refl; listed = rw a (Contains-append_right (requests past) (record { no = entries_in past; task = t; sem = s } ∷ []) _ (0, omega arith, refl)) }

asked_last-keeps : (t s : ℕ) (e : Event) (past : Past) → asks t (sem_act e) ≡ false → AskedLast t s past → AskedLast t s (e ∷ past)
unfolding newest_request requests
asked_last-keeps t s e past a k = record { no = k.no; newest = rw a k.newest; listed = by_act (sem_act e) }
  where
    by_act : (x : SemAct) → Contains (asked_by x (entries_in past) (requests past)) (record { no = k.no; task = t; sem = s })
    by_act (Asks u z) = Contains-append_left (requests past) _ _ k.listed
    by_act (Frees u z) = k.listed
    by_act Neither = k.listed

-- who waits for a semaphore asked for it last
abbrev WaitersAsked : Group → Past → Type 0
WaitersAsked g past = (t s : ℕ) → has s (sems g) ≡ true → has t (sem_state g s past).waiting ≡ true → AskedLast t s past

asks-some : (t : ℕ) (x : SemAct) → ((s : ℕ) → x ≡ Asks t s → ⊥) → asks t x ≡ false
asks-some t (Asks u s) none = unless _ (λ h. let same : t ≡ u = eqb-true t u h in none s (ap {B = SemAct} (λ n. Asks n s) (sym same)))
asks-some t (Frees u s) none = refl
asks-some t Neither none = refl

waiters_asked-step : (g : Group) → MeetsRules g → (e : Event) (past : Past) → IsNext g e past → WaitersAsked g past → WaitersAsked g (e ∷ past)
waiters_asked-step g rules e past follows before t s there h = split (waiting-step g rules t s e past h)
  where
    split : (has t (sem_state g s past).waiting ≡ true) ⊎ (sem_act e ≡ Asks t s) × (is_granted g (protocol g s) s t past ≡ false) → AskedLast t s (e ∷ past)
    split (inl w) = asked_last-keeps t s e past (asks-some t (sem_act e) (λ z a. clash _ w ((follows.asked t z a).waits_none s there))) (before t s there w)
    split (inr a) = asked_last-asks t s e past a.0

waiters_asked : (g : Group) → MeetsRules g → {past : Past} → IsReachable g past → WaitersAsked g past
waiters_asked g rules made = by_moves g (WaitersAsked g) (λ t s there h. absurd (clash _ h (nobody-waits g t s))) (λ past e made move before. waiters_asked-step g rules e past (next g rules made move) before) made

pub waiting_has_open : WaitingHasOpen
unfolding is_open
waiting_has_open g past valid made t s h =
    let w = awaits-waits g t s past h in
    let a = waiters_asked g (rules_of g valid) made t s w.0 w.1 in
    record { no = a.no; listed = a.listed; newest = newest-is g past past t ∙ a.newest; open_now = rw (h, a.newest, equal_self s, equal_self a.no) refl }

pub open_is_newest : OpenIsNewest
unfolding is_open
open_is_newest g past valid made r t s h =
    let p = both (is s (awaits g t past)) (is r (newest_request t past)) h in
    record { newest = newest-is g past past t ∙ is-some r (newest_request t past) p.1; waits = is-some s (awaits g t past) p.0; listed = (open-waits g r t s past h).1 }

pub closed_stays_closed : ClosedStaysClosed
closed_stays_closed g e past valid made r t s low shut = unless _ (λ h. split (open-before g (rules_of g valid) r t s e past (waits_once g (rules_of g valid) parts.0) (next g (rules_of g valid) parts.0 parts.1) h))
  where
    parts : IsReachable g past × IsMove g past e
    parts = last_move g made

    split : (is_open g r t s past ≡ true) ⊎ (sem_act e ≡ Asks t s) × (r ≡ entries_in past) → ⊥
    split (inl o) = clash _ o shut
    split (inr a) = let same : r ≡ entries_in past = a.1 in absurd (omega (arith, low, same))

other-frees : (s u z : ℕ) → z ≢ s → frees s (Frees u z) ≡ false
other-frees s u z apart = unless _ (λ h. apart (sym (eqb-true s z h)))

pub counts_its_own : CountsItsOwn
unfolding ends ends_all
counts_its_own g e past r t s u z act apart = record { ends_stay = rw (act, other-frees s u z apart) refl; all_stay = rw (act, other-frees s u z apart) refl }

-- who frees a semaphore runs
runs-free : (g : Group) → MeetsRules g → {past : Past} {e : Event} → IsReachable g past → IsMove g past e → (t s : ℕ) → sem_act e ≡ Frees t s → (r : ℕ) → has r (sems g) ≡ true → has t (sem_state g r past).waiting ≡ false
runs-free g rules made (clock_moves tick) t s h = cc
runs-free g rules {past} made (cpu_acts q a) t s h = let k : IsFree g q a past t s = requests_of.frees g q a past t s h in let run : IsRunning g q t past = running g rules made q t k.runs_it in run.waits_none

pub counts_others : CountsOthers
counts_others g e past valid made r t s act = unless _ (λ h. let parts = last_move g made in let w = open-waits g r t s past h in clash _ w.1 (runs-free g (rules_of g valid) parts.0 parts.1 t s act s w.0))

-- who waits goes on waiting, or holds
waiting-goes : (g : Group) → MeetsRules g → (t s : ℕ) {e : Event} {past : Past} → IsReachable g past → IsMove g past e → has s (sems g) ≡ true → has t (sem_state g s past).waiting ≡ true → (has t (sem_state g s (e ∷ past)).waiting ≡ true) ⊎ (is t (holder g s (e ∷ past)) ≡ true)
waiting-goes g rules t s {e} {past} made move there w = split (engaged-stays g t s e past (freed g move) (waiting-engaged g t s past w))
  where
    sides : (is t (holder g s (e ∷ past)) ≡ true) ⊎ (has t (sem_state g s (e ∷ past)).waiting ≡ true) → (has t (sem_state g s (e ∷ past)).waiting ≡ true) ⊎ (is t (holder g s (e ∷ past)) ≡ true)
    sides (inl h) = inr h
    sides (inr k) = inl k

    split : (engaged g t s (e ∷ past) ≡ true) ⊎ (sem_act e ≡ Frees t s) → (has t (sem_state g s (e ∷ past)).waiting ≡ true) ⊎ (is t (holder g s (e ∷ past)) ≡ true)
    split (inl k) = sides (engaged-cases g t s (e ∷ past) (kept g rules (cluster_of g s) (moved g made move)) k)
    split (inr act) = absurd (clash _ w (apart g rules made t s there (freed g move t s act)))

pub closes_by_grant : ClosesByGrant
unfolding is_open newest_request
closes_by_grant g e past valid made r t s open_before shut = is-some t (holder g s (e ∷ past)) (split (waiting-goes g rules t s parts.0 parts.1 w.0 w.1))
  where
    rules : MeetsRules g
    rules = rules_of g valid

    parts : IsReachable g past × IsMove g past e
    parts = last_move g made

    w : (has s (sems g) ≡ true) × (has t (sem_state g s past).waiting ≡ true)
    w = open-waits g r t s past open_before

    newest : is r (newest_request t past) ≡ true
    newest = (both (is s (awaits g t past)) (is r (newest_request t past)) open_before).1

    quiet : asks t (sem_act e) ≡ false
    quiet = asks-some t (sem_act e) (λ z a. clash _ w.1 (((next g rules parts.0 parts.1).asked t z a).waits_none s w.0))

    still : has t (sem_state g s (e ∷ past)).waiting ≡ true → is s (awaits g t (e ∷ past)) && is r (if asks t (sem_act e) then Some (entries_in past) else newest_request t past) ≡ true
    still k = let there = awaits-is g t s (e ∷ past) (waits_once g rules made) w.0 k in rw (there, equal_self s, quiet) newest

    split : (has t (sem_state g s (e ∷ past)).waiting ≡ true) ⊎ (is t (holder g s (e ∷ past)) ≡ true) → is t (holder g s (e ∷ past)) ≡ true
    split (inl k) = absurd (clash _ (still k) shut)
    split (inr k) = k

pub holder_has_none : HolderHasNone
holder_has_none g past valid made r t s h = unless _ met
  where
    met : is_open g r t s past ≡ true → ⊥
    met o = let w = open-waits g r t s past o in clash _ w.1 (apart g (rules_of g valid) made t s w.0 (some-is t (holder g s past) h))
