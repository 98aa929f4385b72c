-- A request goes by the number of its entry, and is open while its task waits.
use Rattle.std.proofs.Common.{Bool, [], ap, arith, eqb-true, false, inl, inr, refl, sym, true, ℕ, ◌&&◌, ◌+◌, ◌<◌, ◌∷◌, ◌≡◌, ◌≤◌, ◌⊎◌}
use Rattle.std.specs.Prelude.{Some, if◌then◌else◌}
use Rattle.rt_rules.specs.Numbers.{has, is, rest}
use Rattle.rt_rules.specs.SemState.{Asks, Frees, Neither, SemAct}
use Rattle.rt_model.specs.Answers.{is_granted}
use Rattle.rt_model.specs.Blocking.{asks, frees, is_open, newest_request}
use Rattle.rt_model.specs.Group.{Group, protocol, sems}
use Rattle.rt_model.specs.Holders.{awaits, sem_state}
use Rattle.rt_model.specs.Past.{Acted, Clock, Event, Past, entries_in, is_act, sem_act}
use Rattle.rt_rules.proofs.BoolLaws.{both, clash, unless}
use Rattle.rt_rules.proofs.MemberLaws.{equal_self, is-some}
use Rattle.rt_laws.proofs.Next.{IsNext, next}
use Rattle.rt_laws.proofs.semaphores.OneWait.{WaitsOnce, awaits-is}
use Rattle.rt_laws.proofs.Rules.{MeetsRules}
use Rattle.rt_laws.proofs.semaphores.Waiting.{awaits-waits, waiting-step}

-- the number of entries does not fall
pub entries-grow : (e : Event) (past : Past) → entries_in past ≤ entries_in (e ∷ past)
entries-grow e past = by_case (is_act e)
  where
    by_case : (b : Bool) → entries_in past ≤ (if b then entries_in past + 1 else entries_in past)
    by_case true = omega arith
    by_case false = omega arith

pub asks-acts : (t : ℕ) (e : Event) → asks t (sem_act e) ≡ true → is_act e ≡ true
asks-acts t (Clock tick) h = cc
asks-acts t (Acted d) h = refl

-- a request's number is below the number of entries
pub newest-below : (t r : ℕ) (past : Past) → is r (newest_request t past) ≡ true → r < entries_in past
unfolding newest_request
newest-below t r [] h = cc
newest-below t r (e ∷ past) h = by_case (asks t (sem_act e)) refl h (newest-below t r past)
  where
    by_case : (b : Bool) → asks t (sem_act e) ≡ b → is r (if b then Some (entries_in past) else newest_request t past) ≡ true → (is r (newest_request t past) ≡ true → r < entries_in past) → r < entries_in (e ∷ past)
    by_case true k m rest = let same : r ≡ entries_in past = eqb-true r (entries_in past) m in let one_more : entries_in (e ∷ past) ≡ entries_in past + 1 = rw (asks-acts t e k) in omega arith
    by_case false k m rest = omega (arith, rest m, entries-grow e past)

-- who has an open request waits
pub open-waits : (g : Group) (r t s : ℕ) (past : Past) → is_open g r t s past ≡ true → (has s (sems g) ≡ true) × (has t (sem_state g s past).waiting ≡ true)
unfolding is_open
open-waits g r t s past h = awaits-waits g t s past (is-some s (awaits g t past) (both (is s (awaits g t past)) (is r (newest_request t past)) h).0)

-- an act that asks
asks-is : (t : ℕ) (x : SemAct) → asks t x ≡ true → (s : ℕ) × (x ≡ Asks t s)
asks-is t (Asks u s) h = let e : t ≡ u = eqb-true t u h in (s, ap {B = SemAct} (λ n. Asks n s) (sym e))
asks-is t (Frees u s) h = cc
asks-is t Neither h = cc

-- an act that frees a semaphore
pub frees-is : (s : ℕ) (x : SemAct) → frees s x ≡ true → (u : ℕ) × (x ≡ Frees u s)
frees-is s (Asks u r) h = cc
frees-is s (Frees u r) h = let e : s ≡ r = eqb-true s r h in (u, ap {B = SemAct} (λ n. Frees u n) (sym e))
frees-is s Neither h = cc

-- what is open after a move was open before it, or is asked in it
pub open-before : (g : Group) → MeetsRules g → (r t s : ℕ) (e : Event) (past : Past) → WaitsOnce g past → IsNext g e past → is_open g r t s (e ∷ past) ≡ true → (is_open g r t s past ≡ true) ⊎ (sem_act e ≡ Asks t s) × (r ≡ entries_in past)
unfolding is_open newest_request
open-before g rules r t s e past once next h = split (waiting-step g rules t s e past waits.1) (asks t (sem_act e)) refl parts.1
  where
    parts : (is s (awaits g t (e ∷ past)) ≡ true) × (is r (newest_request t (e ∷ past)) ≡ true)
    parts = both (is s (awaits g t (e ∷ past))) (is r (newest_request t (e ∷ past))) h

    waits : (has s (sems g) ≡ true) × (has t (sem_state g s (e ∷ past)).waiting ≡ true)
    waits = awaits-waits g t s (e ∷ past) (is-some s (awaits g t (e ∷ past)) parts.0)

    no_ask : has t (sem_state g s past).waiting ≡ true → asks t (sem_act e) ≡ true → ⊥
    no_ask w a = let q = asks-is t (sem_act e) a in clash _ w ((next.asked t q.0 q.1).waits_none s waits.0)

    split : (has t (sem_state g s past).waiting ≡ true) ⊎ (sem_act e ≡ Asks t s) × (is_granted g (protocol g s) s t past ≡ false) → (b : Bool) → asks t (sem_act e) ≡ b → is r (if b then Some (entries_in past) else newest_request t past) ≡ true → (is s (awaits g t past) && is r (newest_request t past) ≡ true) ⊎ (sem_act e ≡ Asks t s) × (r ≡ entries_in past)
    split (inl w) true a k = absurd (no_ask w a)
    split (inl w) false a k = inl (rw (awaits-is g t s past once waits.0 w, equal_self s) k)
    split (inr w) true a k = inr (w.0, eqb-true r (entries_in past) k)
    split (inr w) false a k = let m : asks t (Asks t s) ≡ false = rw w.0 at a in absurd (clash _ (equal_self t) m)

-- who waits on after a move keeps its open request
pub waits-open : (g : Group) (r t s : ℕ) (e : Event) (past : Past) → WaitsOnce g (e ∷ past) → IsNext g e past → is_open g r t s past ≡ true → has t (sem_state g s (e ∷ past)).waiting ≡ true → is_open g r t s (e ∷ past) ≡ true
unfolding is_open newest_request
waits-open g r t s e past once next o h = rw (awaits-is g t s (e ∷ past) once w.0 h, equal_self s, quiet) (both (is s (awaits g t past)) (is r (newest_request t past)) o).1
  where
    w : (has s (sems g) ≡ true) × (has t (sem_state g s past).waiting ≡ true)
    w = open-waits g r t s past o

    quiet : asks t (sem_act e) ≡ false
    quiet = unless _ (λ a. let q = asks-is t (sem_act e) a in clash _ w.1 ((next.asked t q.0 q.1).waits_none s w.0))
